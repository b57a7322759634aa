-- The front of a list: its length, its elements and writes into it. Assumes nothing.
use Rattle.std.proofs.Common.{◌≡◌, ℕ, zero, suc, ◌≤◌, List, [], ◌∷◌, length, take, set, refl, ap, arith, length-take}

pub front_within : {X : Type 0} (n : ℕ) (xs : List X) → length (take n xs) ≤ length xs
front_within n xs = simp length-take (omega arith)

pub set_front : {X : Type 0} (n : ℕ) (xs : List X) (i : ℕ) (y : X) → take n (set xs i y) ≡ set (take n xs) i y
set_front zero xs i y = refl
set_front (suc n) [] i y = refl
set_front (suc n) (x ∷ xs) zero y = refl
set_front (suc n) (x ∷ xs) (suc i) y = ap (λ l. x ∷ l) (set_front n xs i y)
