-- Fields and rows of fields at the front of bytes. Assumes nothing.
use Rattle.std.proofs.Common.{◌≡◌, ℕ, zero, suc, ◌+◌, ◌-◌, ◌*◌, ◌<◌, ◌≤◌, List, [], ◌∷◌, ◌++◌, length, take, drop, set, sym, refl, ap, ◌∙◌, append_assoc, arith}
use Rattle.std.proofs.lemmas.List.{take_more_set}
use Rattle.std.specs.Int.{w16, w32, from_be_bytes}
use Rattle.record_source.specs.declared.flaw.Flaw.TheVariants.{Cut}
use Rattle.record_source.specs.Fields.{Got, got, flawed, then, field_from, field, in_row}
use Rattle.record_source.specs.Tells.{digits}

from_cut : (k n : ℕ) (bs : List ℕ) → length bs < k → field_from k n bs ≡ flawed Cut
from_cut zero n bs h = absurd (omega arith)
from_cut (suc k) n [] h = refl
from_cut (suc k) n (b ∷ bs) h = from_cut k (n * 256 + b) bs (omega arith)

from_digits : (k n : ℕ) (bs : List ℕ) → k ≤ length bs → field_from k n bs ≡ got (digits n (take k bs)) (drop k bs)
from_digits zero n bs h = refl
from_digits (suc k) n [] h = absurd (omega arith)
from_digits (suc k) n (b ∷ bs) h = from_digits k (n * 256 + b) bs (omega arith)

pub field_cut : (k : ℕ) (bs : List ℕ) → length bs < k → field k bs ≡ flawed Cut
field_cut k bs h = from_cut k 0 bs h

pub field_digits : (k : ℕ) (bs : List ℕ) → k ≤ length bs → field k bs ≡ got (digits 0 (take k bs)) (drop k bs)
field_digits k bs h = from_digits k 0 bs h

pub digits_two : (bs : List ℕ) → length bs ≡ 2 → digits 0 bs ≡ from_be_bytes w16 bs
digits_two [] h = absurd (omega arith)
digits_two (a ∷ []) h = absurd (omega arith)
digits_two (a ∷ b ∷ []) h = omega arith
digits_two (a ∷ b ∷ c ∷ bs) h = absurd (omega arith)

pub digits_four : (bs : List ℕ) → length bs ≡ 4 → digits 0 bs ≡ from_be_bytes w32 bs
digits_four [] h = absurd (omega arith)
digits_four (a ∷ []) h = absurd (omega arith)
digits_four (a ∷ b ∷ []) h = absurd (omega arith)
digits_four (a ∷ b ∷ c ∷ []) h = absurd (omega arith)
digits_four (a ∷ b ∷ c ∷ d ∷ []) h = omega arith
digits_four (a ∷ b ∷ c ∷ d ∷ e ∷ bs) h = absurd (omega arith)

-- what a row gives behind fields that were read
abbrev pub prefixed : {A : Type 0} → List A → Got (List A) → Got (List A)
prefixed xs (got ys r) = got (xs ++ ys) r
prefixed xs (flawed w) = flawed w

prefixed_more : {A : Type 0} (xs : List A) (x : A) (g : Got (List A)) → prefixed xs (then g (λ ys s. got (x ∷ ys) s)) ≡ prefixed (xs ++ x ∷ []) g
prefixed_more xs x (got ys r) = ap (λ l. got l r) (sym (append_assoc xs (x ∷ []) ys))
prefixed_more xs x (flawed w) = refl

module _ {A : Type 0} (one : List ℕ → Got A) (k i : ℕ) (rest : List ℕ) (out : List A) (whole : Got (List A)) (h : i < k) where
  left : (suc (k - (i + 1))) ≡ k - i
  left = omega arith

  pub row_more : (x : A) (behind : List ℕ) → k ≤ length out → one rest ≡ got x behind →
      whole ≡ prefixed (take i out) (in_row one (k - i) rest) →
      whole ≡ prefixed (take (i + 1) (set out i x)) (in_row one (k - (i + 1)) behind)
  row_more x behind l e w =
      w ∙ ap (λ m. prefixed (take i out) (in_row one m rest)) (sym left)
      ∙ ap (λ g. prefixed (take i out) (then g (λ x r. then (in_row one (k - (i + 1)) r) (λ xs s. got (x ∷ xs) s)))) e
      ∙ prefixed_more (take i out) x (in_row one (k - (i + 1)) behind)
      ∙ ap (λ xs. prefixed xs (in_row one (k - (i + 1)) behind)) (sym (take_more_set out i x (omega arith)))
