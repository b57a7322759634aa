-- A last line that no line feed ends has nothing behind it.
use Rattle.std.proofs.Common.{◌≡◌, ℕ, cond, List, [], Some, None, Option, sym, refl, ap, ◌∙◌}
use denote.Bor.{Bor}
use Rattle.std.specs.Option.{option_map, unwrap_or}
use Rattle.text.specs.Fronts.{behind_line, fed}
use Rattle.text.proofs.Lines.{not_fed}
use Rattle.formula.proofs.LineRows.{some_if, none_if}
use Rattle.formula.proofs.lines.next_line.Goals as goal

next_is : (text : List ℕ) (r : Option (Bor (List ℕ))) (d x : Bor (List ℕ)) → option_map (λ x. x.now) r ≡ cond (fed text) (Some (behind_line text)) None → x ≡ unwrap_or r d → d.now ≡ [] → x.now ≡ behind_line text
next_is text None d x e u z = ap (λ x. x.now) u ∙ z ∙ sym (not_fed text (none_if (fed text) (behind_line text) e))
next_is text (Some y) d x e u z = ap (λ x. x.now) u ∙ (some_if (fed text) (behind_line text) y.now e).1

pub returns : goal.returns
returns c = next_is c.args.text.now c.skip_line.result _ c.unwrap_or.result c.skip_line.ensures.is c.unwrap_or.ensures refl
