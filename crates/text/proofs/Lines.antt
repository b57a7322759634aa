-- The lines of a text by its first line and what stands behind it.
use Rattle.std.proofs.Common.{◌≡◌, ℕ, ◌<◌, true, false, cond, eqb, List, [], ◌∷◌, length, sym, refl, ap, ◌∙◌, inl, inr, arith}
use Rattle.std.proofs.lemmas.Bool.{cases_Bool, true≢false}
use Rattle.text.specs.Words.{join_first, lines_of}
use Rattle.text.specs.Fronts.{line_of, behind_line, fed}

pub lines_first : (c : ℕ) (cs : List ℕ) → lines_of (c ∷ cs) ≡ line_of (c ∷ cs) ∷ lines_of (behind_line (c ∷ cs))
lines_first c [] = elim (cases_Bool (eqb c 10)) [ inl e ↦ simp e | inr e ↦ simp e ]
lines_first c (d ∷ ds) = elim (cases_Bool (eqb c 10)) [ inl e ↦ simp e | inr e ↦ simp e (ap (join_first c) (lines_first d ds)) ]

pub lines_front : (bs : List ℕ) → 0 < length bs → lines_of bs ≡ line_of bs ∷ lines_of (behind_line bs)
lines_front [] h = absurd (omega arith)
lines_front (c ∷ cs) h = lines_first c cs

-- the last line, if no line feed ends it
pub not_fed : (bs : List ℕ) → fed bs ≡ false → behind_line bs ≡ []
not_fed [] h = refl
not_fed (c ∷ cs) h =
    elim (cases_Bool (eqb c 10)) [
      | inl e ↦ absurd (true≢false (sym (ap (λ b. cond b true (fed cs)) e) ∙ h))
      | inr e ↦ simp e (not_fed cs (sym (ap (λ b. cond b true (fed cs)) e) ∙ h))
    ]
