-- What holds of each element of a longer list, and the element at a place. Assumes nothing.
use Rattle.std.proofs.Common.{◌≡◌, ℕ, zero, suc, ◌+◌, ◌<◌, ◌≤◌, Bool, cond, leb, List, [], ◌∷◌, ◌++◌, length, get_or, Some, sym, refl, ◌∙◌, subst, ⊎_elim, arith}
use Rattle.std.specs.List.{slice_get}
use Rattle.std.proofs.lemmas.List.{get_or_append_left, get_or_push, length_push}
use Rattle.std.proofs.lemmas.Option.{get_or_from_slice_get, slice_get_within}
use Rattle.std.proofs.lemmas.Bool.{cases_lt, cond-true, le-leb}

module _ {X : Type 0} (d : X) (es : List X) (x : X) where
  at_old : (k : ℕ) → k < length es → get_or (es ++ x ∷ []) k d ≡ get_or es k d
  at_old k h = get_or_append_left es (x ∷ []) d k h

  at_new : get_or (es ++ x ∷ []) (length es) d ≡ x
  at_new = get_or_push es x d (length es) refl

  -- what holds of each element, and of the new one
  pub each : (P : X → Type 0) → ((k : ℕ) → k < length es → P (get_or es k d)) → P x → (k : ℕ) → k < length (es ++ x ∷ []) → P (get_or (es ++ x ∷ []) k d)
  each P old new k h =
      let w : length (es ++ x ∷ []) ≡ length es + 1 = length_push es x in
      ⊎_elim (λ (q : k < length es). subst P (sym (at_old k q)) (old k q))
      (λ (q : length es ≤ k). let e : length es ≡ k = omega arith in subst (λ (j : ℕ). P (get_or (es ++ x ∷ []) j d)) e (subst P (sym at_new) new))
      (cases_lt k (length es))

-- what holds of each element of both lists
pub both : {X : Type 0} (d : X) (P : X → Type 0) (xs ys : List X) → ((k : ℕ) → k < length xs → P (get_or xs k d)) → ((k : ℕ) → k < length ys → P (get_or ys k d)) → (k : ℕ) → k < length (xs ++ ys) → P (get_or (xs ++ ys) k d)
both d P [] ys a b k h = b k h
both d P (x ∷ xs) ys a b zero h = a 0 (omega arith)
both d P (x ∷ xs) ys a b (suc k) h = both d P xs ys (λ j q. a (suc j) (omega arith)) b k (omega arith)

-- what holds of each element holds of the one at a place
pub each_nth : {X : Type 0} (d : X) (P : X → Type 0) (xs : List X) (k : ℕ) (x : X) → slice_get xs k ≡ Some x → ((j : ℕ) → j < length xs → P (get_or xs j d)) → P x
each_nth d P xs k x e h = subst P (get_or_from_slice_get xs k x d e) (h k (slice_get_within xs k x e))

-- what a table with space for all holds afterwards
pub all_put : {X : Type 0} (r : Bool) (n m : ℕ) (zs xs ys : List X) → r ≡ leb n m → zs ≡ cond r xs ys → n ≤ m → zs ≡ xs
all_put r n m zs xs ys a e h = e ∙ cond-true r xs ys (a ∙ le-leb n m h)
