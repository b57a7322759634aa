-- A word of other bytes is another word.
use Rattle.std.proofs.Common.{◌≡◌, ℕ, Bool, true, false, List, MatchBool, sym, ap, ◌∙◌, subst, inl, inr}
use denote.Bor.{Bor}
use Rattle.std.specs.Bool.{then_some}
use Rattle.std.specs.Cmp.Lexicographic.{told_text}
use Rattle.std.proofs.lemmas.Bool.{cases_Bool}
use Rattle.text.specs.Words.Token.{word}
use Rattle.text.specs.Fronts.{Goes}
use Rattle.formula.specs.Reading.{same_bytes}
use Rattle.formula.specs.Cursors.{begins, Keyword}
use Rattle.formula.proofs.HeaderWords.{same_bytes_lem}
use Rattle.formula.proofs.header.keyword.Goals as goal

other_bytes : (us ws : List ℕ) → (ws ≡ us → ⊥) → same_bytes us ws ≡ false
other_bytes us ws h = elim (cases_Bool (same_bytes us ws)) [ inl e ↦ absurd (h (same_bytes_lem us ws e)) | inr e ↦ e ]

named : (text name : List ℕ) (w rest : Bor (List ℕ)) (r : Bool) → Goes text (word w.now) rest.now → MatchBool r (w.now ≡ name) (w.now ≡ name → ⊥) → Keyword text name (then_some r rest)
named text name w rest true g e = subst (λ w. Goes text (word w) rest.now) e g
named text name w rest false g e = ap (begins name) g.tokens ∙ other_bytes name w.now e

pub returns : goal.returns
returns c =
    let w = c.in-Word.word in
    subst (Keyword c.args.text.now c.args.name.now) (sym c.then_some.ensures)
    (named c.args.text.now c.args.name.now w c.in-Word.rest c.eq.result c.in-Word.ensures.0 (told_text w.now c.args.name.now c.eq.result c.eq.ensures))
