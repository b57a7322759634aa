-- One byte on from the front of a text.
use Rattle.std.proofs.Common.{◌≡◌, ℕ, ◌+◌, ◌-◌, ◌*◌, ◌<◌, ◌≤◌, Bool, true, false, cond, List, [], ◌∷◌, length, get_or, Some, None, refl, ap, arith}
use Rattle.std.proofs.lemmas.Bool.{lt-leb, le-leb}
use Rattle.std.proofs.lemmas.Bool.Decides.{nat_tests}
use Rattle.text.specs.Words.{limit, digit}
use Rattle.text.specs.Fronts.{ends, at_end, within, number_from}

-- a digit ends no word
pub digit_goes : (c : ℕ) → digit c ≡ true → ends c ≡ false
digit_goes c h = grind (arith, nat_tests)

-- a number beyond the limit stays so
same_either : {X : Type 0} (b : Bool) (x : X) → cond b x x ≡ x
same_either true x = refl
same_either false x = refl

within_not : (n : ℕ) → limit < n → within n ≡ None
within_not n h = ap (λ b. cond b (Some n) None) (lt-leb n limit h)

pub too_big : (bs : List ℕ) (n : ℕ) → limit < n → number_from n bs ≡ None
too_big [] n h = within_not n h
too_big (c ∷ cs) n h =
    let e = too_big cs (n * 10 + (c - 48)) (omega arith) in
    simp (within_not n h, e, same_either)

pub number_ends : (bs : List ℕ) (n : ℕ) → at_end bs ≡ true → n ≤ limit → number_from n bs ≡ Some n
number_ends [] n e h = simp (le-leb n limit h)
number_ends (c ∷ cs) n e h = simp (e, le-leb n limit h)

-- a byte that neither ends the word nor is a digit
pub number_breaks : (bs : List ℕ) (n : ℕ) → 0 < length bs → ends (get_or bs 0 0) ≡ false → digit (get_or bs 0 0) ≡ false → number_from n bs ≡ None
number_breaks [] n h e d = absurd (omega arith)
number_breaks (c ∷ cs) n h e d = simp (e, d)
