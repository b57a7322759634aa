-- One list written over a part of another. Assumes nothing.
use Rattle.std.proofs.Common.{◌≡◌, ℕ, suc, ◌+◌, ◌<◌, List, [], ◌∷◌, ◌++◌, length, take, drop, set, sym, ap, ◌∙◌, arith}
use Rattle.std.proofs.lemmas.List.{length-take-le, set_split}
use Rattle.tables.specs.Filled.{over}

-- one slot written
pub over_one : {X : Type 0} (s : List X) (n k : ℕ) (x : X) → n < length s → n ≡ k → set s n x ≡ over s k (x ∷ [])
over_one s n k x h e =
    let p : suc n ≡ n + 1 = omega arith in
    set_split s n x h ∙ ap (λ (j : ℕ). take n s ++ (x ∷ drop j s)) p ∙ ap (λ (j : ℕ). over s j (x ∷ [])) e

pub over_next : {X : Type 0} (s : List X) (n : ℕ) (x : X) → n < length s → set s n x ≡ over s (length (take n s)) (x ∷ [])
over_next s n x h = over_one s n (length (take n s)) x h (sym (length-take-le n s (omega arith)))
