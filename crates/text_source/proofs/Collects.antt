-- One number more of a run.
use Rattle.std.proofs.Common.{◌≡◌, ℕ, ◌+◌, ◌-◌, ◌^◌, ◌<◌, false, ltb, List, [], ◌∷◌, ◌++◌, length, take, set, ℤ, pos, negsuc, Some, Option, sym, refl, ap, ◌∙◌, inl, inr, arith, w32, to_z, length-set}
use Rattle.std.proofs.lemmas.List.{append_assoc, take_more_set}
use Rattle.std.proofs.lemmas.Bool.{ne_eqb, cases_Bool}
use Rattle.text.specs.Words.{Token}
use Rattle.text.specs.Words.Token.{number}
use Rattle.text_source.specs.Parse.{Run, got, off, behind, is_zero, collect}

-- numbers read before a run
abbrev pub prefixed : {A : Type 0} → List A → Run A → Run A
prefixed xs (got ys ts) = got (xs ++ ys) ts
prefixed xs (off f) = off f

prefixed_more : {A : Type 0} (xs : List A) (x : A) (run : Run A) → prefixed (xs ++ x ∷ []) run ≡ prefixed xs (behind x run)
prefixed_more xs x (got ys ts) = ap (λ l. got l ts) (append_assoc xs (x ∷ []) ys)
prefixed_more xs x (off f) = refl

pub nonzero : (z : ℤ) → (z ≡ pos 0 → ⊥) → is_zero z ≡ false
nonzero (pos n) h = ne_eqb n 0 (λ e. h (ap pos e))
nonzero (negsuc n) h = refl

-- a machine number that is not 0
pub not_zero : (b : ℕ) → (b ≡ 0 → ⊥) → is_zero (to_z w32 b) ≡ false
not_zero b h = elim (cases_Bool (ltb b (2 ^ 31))) [ inl e ↦ simp e (ne_eqb b 0 h) | inr e ↦ simp e ]

module _ {A : Type 0} (keep : ℤ → Option A) where
  run_on : (z : ℤ) (ts : List Token) (k : ℕ) (x : A) → (z ≡ pos 0 → ⊥) → keep z ≡ Some x → 0 < k → collect keep k (number z ∷ ts) ≡ behind x (collect keep (k - 1) ts)
  run_on z ts k x e h l = simp (nonzero z e, h, ne_eqb k 0 (λ q. omega arith))

  -- z is stored as x, and the tokens behind it are us
  pub run_step : (first : List Token) (out : List A) (n : ℕ) (z : ℤ) (x : A) (ts us : List Token) → (z ≡ pos 0 → ⊥) → keep z ≡ Some x → n < length out → ts ≡ us →
      collect keep (length out) first ≡ prefixed (take n out) (collect keep (length out - n) (number z ∷ ts)) →
      collect keep (length (set out n x)) first ≡ prefixed (take (n + 1) (set out n x)) (collect keep (length (set out n x) - (n + 1)) us)
  run_step first out n z x ts us e h l t i =
      let k : (length out - n) - 1 ≡ length out - (n + 1) = omega arith in
      rw (length-set out n x, take_more_set out n x l, sym t)
      (i ∙ ap (prefixed (take n out)) (run_on z ts (length out - n) x e h (omega arith) ∙ ap (λ m. behind x (collect keep m ts)) k) ∙ sym (prefixed_more (take n out) x (collect keep (length out - (n + 1)) ts)))
