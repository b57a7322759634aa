-- Bytes that show which literals are false. Assumes nothing.
use Rattle.std.proofs.Common.{◌≡◌, ℕ, zero, suc, ◌*◌, ◌<◌, ◌≤◌, Bool, true, false, cond, ◌||◌, eqb, leb, List, [], ◌∷◌, length, get_or, take, set, replicate, ℤ, pos, negsuc, neg_ℤ, sym, refl, ap, ◌∙◌, subst, ⊎_elim, arith}
use Rattle.std.proofs.lemmas.List.{length-set, get_or-set_same, get_or-set_other, length-take-le}
use Rattle.std.proofs.lemmas.Bool.{cases_Bool, and_parts, and_from, leb-true, eqb-true, eq-eqb}
use Rattle.std.specs.Ordering.{int_eq}
use Rattle.std.proofs.lemmas.Bool.Decides.{Decides-int_eq, not_from_Decides}
use Rattle.formula.specs.Clauses.{LiteralOf}
use Rattle.rup.specs.Bytes.{byte_of, all_zero, clean, Shows}
use Rattle.rup.specs.Propagation.{among}

pub byte_low : (v : ℕ) (l : ℤ) → LiteralOf v l → byte_of l < 2 * v
byte_low v (pos n) (a, b) = omega arith
byte_low v (negsuc n) (a, b) = omega arith

pub opposite_of : (v : ℕ) (l : ℤ) → LiteralOf v l → LiteralOf v (neg_ℤ l)
opposite_of v (pos zero) h = h
opposite_of v (pos (suc n)) h = h
opposite_of v (negsuc n) h = h

-- different literals have different bytes
apart : (v : ℕ) (l k : ℤ) → LiteralOf v l → LiteralOf v k → int_eq l k ≡ false → byte_of l ≡ byte_of k → ⊥
apart v (pos m) (pos n) (a, b) (c, d) e q = not_from_Decides _ (Decides-int_eq (pos m) (pos n)) e (ap pos (omega arith))
apart v (pos m) (negsuc n) (a, b) (c, d) e q = omega arith
apart v (negsuc m) (pos n) (a, b) (c, d) e q = omega arith
apart v (negsuc m) (negsuc n) (a, b) (c, d) e q = not_from_Decides _ (Decides-int_eq (negsuc m) (negsuc n)) e (ap negsuc (omega arith))

-- one literal more made false
pub shows_more : (v : ℕ) (bytes : List ℕ) (falses : List ℤ) (l : ℤ) → LiteralOf v l → Shows v bytes falses → Shows v (set bytes (byte_of l) 1) (l ∷ falses)
shows_more v bytes falses l lit s = record { long = subst (λ (n : ℕ). 2 * v ≤ n) (sym (length-set bytes (byte_of l) 1)) s.long; each = by }
  where
    low : byte_of l < length bytes
    low = let a = byte_low v l lit in let b = s.long in omega arith

    by : (k : ℤ) → LiteralOf v k → get_or (set bytes (byte_of l) 1) (byte_of k) 0 ≡ cond (int_eq k l || among k falses) 1 0
    by k h =
        ⊎_elim (λ (y : int_eq k l ≡ true). ap (λ (j : ℤ). get_or (set bytes (byte_of l) 1) (byte_of j) 0) ((Decides-int_eq k l).0 y) ∙ get_or-set_same bytes (byte_of l) 1 0 low ∙ sym (ap (λ (b : Bool). cond (b || among k falses) 1 0) y))
        (λ (n : int_eq k l ≡ false). get_or-set_other bytes (byte_of l) (byte_of k) 1 0 (apart v k l h lit n) ∙ s.each k h ∙ sym (ap (λ (b : Bool). cond (b || among k falses) 1 0) n))
        (cases_Bool (int_eq k l))

-- zero bytes

pub each_zero : (bs : List ℕ) → ((k : ℕ) → k < length bs → get_or bs k 0 ≡ 0) → all_zero bs ≡ true
each_zero [] h = refl
each_zero (b ∷ bs) h = and_from (eqb b 0) (all_zero bs) (eq-eqb b 0 (h 0 (omega arith))) (each_zero bs (λ k q. h (suc k) (omega arith)))

zeros : (bs : List ℕ) → all_zero bs ≡ true → bs ≡ replicate (length bs) 0
zeros [] e = refl
zeros (b ∷ bs) e =
    let p = and_parts (eqb b 0) (all_zero bs) e in
    let z = eqb-true b 0 p.0 in
    let r = zeros bs p.1 in
    cc

pub clean_zeros : (v : ℕ) (bytes : List ℕ) → clean v bytes ≡ true → take (2 * v) bytes ≡ replicate (2 * v) 0
clean_zeros v bytes e =
    let p = and_parts (leb (2 * v) (length bytes)) (all_zero (take (2 * v) bytes)) e in
    zeros (take (2 * v) bytes) p.1 ∙ ap (λ (n : ℕ). replicate n 0) (length-take-le (2 * v) bytes (leb-true (2 * v) (length bytes) p.0))
