-- One more element at the end, and runs of a longer table. Assumes nothing.
use Rattle.std.proofs.Common.{◌≡◌, ℕ, ◌+◌, ◌<◌, ◌≤◌, List, [], ◌∷◌, ◌++◌, length, get_or, take, drop, sym, refl, ap, ◌∙◌, subst, ⊎_elim, arith}
use Rattle.std.proofs.lemmas.List.{get_or_append_left, get_or_push, length_push, length-take, length-drop, take-append-le, drop-append-le, drop_at, take_all}
use Rattle.std.proofs.lemmas.Bool.{cases_lt}
use Rattle.formula.specs.declared.span.Span.{Span}
use Rattle.formula.specs.Spans.{part}

module _ {X : Type 0} (d : X) (es : List X) (x : X) where
  pub at_old : (k : ℕ) → k < length es → get_or (es ++ x ∷ []) k d ≡ get_or es k d
  at_old k h = get_or_append_left es (x ∷ []) d k h

  pub at_new : get_or (es ++ x ∷ []) (length es) d ≡ x
  at_new = get_or_push es x d (length es) refl

  -- what holds of each element at its place, and of the new one
  pub each : (P : ℕ → X → Type 0) → ((k : ℕ) → k < length es → P k (get_or es k d)) → P (length es) x → (k : ℕ) → k < length (es ++ x ∷ []) → P k (get_or (es ++ x ∷ []) k d)
  each P old new k h =
      let w : length (es ++ x ∷ []) ≡ length es + 1 = length_push es x in
      ⊎_elim (λ (q : k < length es). subst (P k) (sym (at_old k q)) (old k q))
      (λ (q : length es ≤ k). let e : length es ≡ k = omega arith in subst (λ (j : ℕ). P j (get_or (es ++ x ∷ []) j d)) e (subst (P (length es)) (sym at_new) new))
      (cases_lt k (length es))

pub part_old : {X : Type 0} (s : Span) (xs ys : List X) → s.at + s.len ≤ length xs → part s (xs ++ ys) ≡ part s xs
part_old s xs ys h =
    let a : s.at ≤ length xs = omega arith in
    ap (take s.len) (drop-append-le s.at xs ys a) ∙ take-append-le s.len (drop s.at xs) ys (simp length-drop (omega arith))

pub part_new : {X : Type 0} (s : Span) (xs ys : List X) → s.at ≡ length xs → s.len ≡ length ys → part s (xs ++ ys) ≡ ys
part_new s xs ys a l = ap (take s.len) (drop_at xs ys s.at (sym a)) ∙ take_all s.len ys (omega arith)

pub part_length : {X : Type 0} (s : Span) (xs : List X) → s.at + s.len ≤ length xs → length (part s xs) ≡ s.len
part_length s xs h = simp (length-take, length-drop) (omega arith)
