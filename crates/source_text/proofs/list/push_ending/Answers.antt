use Rattle.std.proofs.Common.{ℕ, [], ◌∷◌, ◌++◌, string_bytes, codes, decimal, ap, ◌∙◌}
use Rattle.source_text.proofs.list.push_ending.Goals as goal

pub returns : goal.returns
returns c =
    c.in_ok-writeln.ensures.bytes ∙ ap (λ (n : ℕ). string_bytes c.args.out.now ++ (codes "ending number=" ++ (decimal n ++ (codes " place=" ++ (decimal c.args.ending.place ++ (10 ∷ [])))))) c.number-number.ensures
