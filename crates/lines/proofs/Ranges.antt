-- Literals of a formula's variables. Assumes nothing.
use Rattle.std.proofs.Common.{◌≡◌, ℕ, zero, suc, false, eqb, ltb, List, [], ◌∷◌, ℤ, nat_abs, arith}
use Rattle.std.proofs.lemmas.Bool.{or_parts, eqb-false, ltb-false}
use Rattle.formula.specs.Clauses.{LiteralOf}
use Rattle.formula.specs.Spans.{Ranged}
use Rattle.lines.specs.Held.{strange, outside}

known : (v : ℕ) (l : ℤ) → strange v l ≡ false → LiteralOf v l
known v l e =
    let p = or_parts (eqb (nat_abs l) 0) (ltb v (nat_abs l)) e in
    let z : nat_abs l ≡ 0 → ⊥ = eqb-false (nat_abs l) 0 p.0 in
    (omega arith, ltb-false v (nat_abs l) p.1)

pub inside_ranged : (v : ℕ) (ls : List ℤ) → outside v ls ≡ false → Ranged v ls
inside_ranged v [] e k h = absurd (omega arith)
inside_ranged v (l ∷ ls) e zero h = known v l (or_parts (strange v l) (outside v ls) e).0
inside_ranged v (l ∷ ls) e (suc k) h = inside_ranged v ls (or_parts (strange v l) (outside v ls) e).1 k (omega arith)
