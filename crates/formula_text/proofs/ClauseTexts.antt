-- The line of a clause, and the clause of a number. Assumes nothing.
use Rattle.std.proofs.Common.{◌≡◌, ℕ, List, [], ◌∷◌, ◌++◌, map, codes, decimal, sym, refl, ap, ◌∙◌, append_assoc, arith}
use Rattle.std.specs.Fmt.{signed_decimal}
use Rattle.std.proofs.lemmas.Fmt.{decimal_digit}
use Rattle.text.specs.Written.{spaced}
use Rattle.plain_text.specs.Texts.{literals_text}
use Rattle.formula.specs.Clauses.{Clause}
use Rattle.formula.specs.Laws.{clause_text}

spaced_more : (w : List ℕ) (ws : List (List ℕ)) (v : List ℕ) → spaced (w ∷ (ws ++ v ∷ [])) ≡ w ++ 32 ∷ spaced (ws ++ v ∷ [])
spaced_more w [] v = refl
spaced_more w (x ∷ xs) v = refl

spaced_literals : (c : Clause) (v : List ℕ) → spaced (map signed_decimal c ++ v ∷ []) ≡ literals_text c ++ v
spaced_literals [] v = refl
spaced_literals (l ∷ ls) v =
    spaced_more (signed_decimal l) (map signed_decimal ls) v ∙
    (ap (λ (t : List ℕ). signed_decimal l ++ 32 ∷ t) (spaced_literals ls v) ∙
    (sym (append_assoc (signed_decimal l) (32 ∷ []) (literals_text ls ++ v)) ∙ sym (append_assoc (signed_decimal l ++ 32 ∷ []) (literals_text ls) v)))

pub clause_text_lem : (c : Clause) → clause_text c ≡ literals_text c ++ codes "0\n"
clause_text_lem c =
    ap (λ (t : List ℕ). t ++ 10 ∷ []) (spaced_literals c (decimal 0) ∙ ap (λ (t : List ℕ). literals_text c ++ t) (decimal_digit 0 (omega arith))) ∙
    append_assoc (literals_text c) (48 ∷ []) (10 ∷ [])
