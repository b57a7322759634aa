-- The first word of a line, and the number in it.
use Rattle.std.proofs.Common.{◌≡◌, ℕ, suc, ◌+◌, ◌-◌, ◌*◌, ◌<◌, true, false, cond, ◌&&◌, eqb, leb, List, [], ◌∷◌, ◌++◌, length, get_or, take, Some, None, sym, refl, ap, ◌∙◌, inl, inr, zero-add, arith}
use Rattle.std.proofs.lemmas.List.{take_at}
use Rattle.std.proofs.lemmas.Bool.{true≢false, ne_eqb, cases_Bool, or_parts, or_from}
use Rattle.std.proofs.lemmas.Bool.Decides.{nat_tests}
use Rattle.text.proofs.Steps.{digit_goes}
use Rattle.text.specs.Words.{limit, blank, digit, join_first, words_of, natural, all_digits, value_from}
use Rattle.text.specs.Fronts.{ends, unblanked, behind_word, word_of, at_end, number_from, line_of, behind_line, fed, tokens_left}

blank_no_feed : (c : ℕ) → blank c ≡ true → eqb c 10 ≡ false
blank_no_feed c h = grind (arith, nat_tests)

pub word_first : (c : ℕ) (cs : List ℕ) → ends c ≡ false → words_of (line_of (c ∷ cs)) ≡ word_of (c ∷ cs) ∷ words_of (line_of (behind_word (c ∷ cs)))
word_first c [] h = let p = or_parts (blank c) (eqb c 10) h in simp (p.0, p.1)
word_first c (d ∷ ds) h =
    let p = or_parts (blank c) (eqb c 10) h in
    elim (cases_Bool (blank d)) [
      | inl b ↦ let n = blank_no_feed d b in simp (p.0, p.1, b, n)
      | inr nb ↦
          elim (cases_Bool (eqb d 10)) [
            | inl lf ↦ simp (p.0, p.1, nb, lf)
            | inr nl ↦ let ih = word_first d ds (or_from (blank d) (eqb d 10) nb nl) in simp (p.0, p.1, nb, nl) (ap (join_first c) (simp (nb, nl) at ih))
          ]
    ]

pub line_word : (bs : List ℕ) → behind_line bs ≡ behind_line (behind_word bs)
line_word [] = refl
line_word (c ∷ cs) =
    elim (cases_Bool (ends c)) [
      | inl e ↦ simp e
      | inr e ↦ let p = or_parts (blank c) (eqb c 10) e in simp (p.0, p.1) (line_word cs)
    ]

pub feed_word : (bs : List ℕ) → fed bs ≡ fed (behind_word bs)
feed_word [] = refl
feed_word (c ∷ cs) =
    elim (cases_Bool (ends c)) [
      | inl e ↦ simp e
      | inr e ↦ let p = or_parts (blank c) (eqb c 10) e in simp (p.0, p.1) (feed_word cs)
    ]

pub tokens_unblanked : (bs : List ℕ) → tokens_left bs ≡ tokens_left (unblanked bs)
tokens_unblanked [] = refl
tokens_unblanked (c ∷ cs) =
    elim (cases_Bool (blank c)) [
      | inl e ↦ let n = blank_no_feed c e in simp (e, n) (tokens_unblanked cs)
      | inr e ↦ simp e
    ]

pub line_unblanked : (bs : List ℕ) → behind_line bs ≡ behind_line (unblanked bs)
line_unblanked [] = refl
line_unblanked (c ∷ cs) =
    elim (cases_Bool (blank c)) [
      | inl e ↦ let n = blank_no_feed c e in simp (e, n) (line_unblanked cs)
      | inr e ↦ simp e
    ]

pub feed_unblanked : (bs : List ℕ) → fed bs ≡ fed (unblanked bs)
feed_unblanked [] = refl
feed_unblanked (c ∷ cs) =
    elim (cases_Bool (blank c)) [
      | inl e ↦ let n = blank_no_feed c e in simp (e, n) (feed_unblanked cs)
      | inr e ↦ simp e
    ]

pub unblanked_twice : (bs : List ℕ) → unblanked (unblanked bs) ≡ unblanked bs
unblanked_twice [] = refl
unblanked_twice (c ∷ cs) = elim (cases_Bool (blank c)) [ inl e ↦ simp e (unblanked_twice cs) | inr e ↦ simp e ]

-- the number of a word, digit by digit
number_is : (bs : List ℕ) (n : ℕ) → number_from n bs ≡ cond (all_digits (word_of bs) && leb (value_from n (word_of bs)) limit) (Some (value_from n (word_of bs))) None
number_is [] n = refl
number_is (c ∷ cs) n =
    elim (cases_Bool (ends c)) [
      | inl e ↦ simp e
      | inr e ↦
          elim (cases_Bool (digit c)) [
            | inl d ↦ simp (e, d) (number_is cs (n * 10 + (c - 48)))
            | inr d ↦ simp (e, d)
          ]
    ]

-- a word that ends at once
pub word_none : (bs : List ℕ) → at_end bs ≡ true → word_of bs ≡ []
word_none [] e = refl
word_none (c ∷ cs) e = simp e

pub word_some : (bs : List ℕ) → at_end bs ≡ false → eqb (length (word_of bs)) 0 ≡ false
word_some [] e = absurd (true≢false e)
word_some (c ∷ cs) e = simp e (ne_eqb (suc (length (word_of cs))) 0 (λ q. omega arith))

-- what the first byte tells of a number
pub zero_only : (cs : List ℕ) → at_end cs ≡ true → natural (word_of (48 ∷ cs)) ≡ Some 0
zero_only cs e = let w = word_none cs e in simp w

pub zero_more : (cs : List ℕ) → at_end cs ≡ false → natural (word_of (48 ∷ cs)) ≡ None
zero_more cs e = let w = word_some cs e in simp w

pub first_digit : (c : ℕ) (cs : List ℕ) → digit c ≡ true → eqb c 48 ≡ false → natural (word_of (c ∷ cs)) ≡ number_from (c - 48) cs
first_digit c cs d z =
    let e = digit_goes c d in
    let v : value_from 0 (c ∷ word_of cs) ≡ value_from (c - 48) (word_of cs) = ap (λ n. value_from n (word_of cs)) (zero-add (c - 48)) in
    simp (e, d, z) (ap (λ n. cond (all_digits (word_of cs) && leb n limit) (Some n) None) v ∙ sym (number_is cs (c - 48)))

pub no_digit : (c : ℕ) (cs : List ℕ) → digit c ≡ false → natural (word_of (c ∷ cs)) ≡ None
no_digit c cs d =
    let z = not_zero c d in
    elim (cases_Bool (ends c)) [ inl e ↦ simp e | inr e ↦ simp (e, d, z) ]
  where
    not_zero : (c : ℕ) → digit c ≡ false → eqb c 48 ≡ false
    not_zero c d = grind (arith, nat_tests)

pub word_length : (bs : List ℕ) → length (word_of bs) + length (behind_word bs) ≡ length bs
word_length [] = refl
word_length (c ∷ cs) =
    elim (cases_Bool (ends c)) [
      | inl e ↦ simp e (zero-add (suc (length cs)))
      | inr e ↦ let ih = word_length cs in simp e (omega (arith, ih))
    ]

pub word_split : (bs : List ℕ) → word_of bs ++ behind_word bs ≡ bs
word_split [] = refl
word_split (c ∷ cs) = elim (cases_Bool (ends c)) [ inl e ↦ simp e | inr e ↦ simp e (ap (λ r. c ∷ r) (word_split cs)) ]

-- the bytes of a word, by what stands behind it
pub word_taken : (bs : List ℕ) → take (length bs - length (behind_word bs)) bs ≡ word_of bs
word_taken bs =
    let l : length (word_of bs) ≡ length bs - length (behind_word bs) = omega (arith, word_length bs) in
    ap (take (length bs - length (behind_word bs))) (sym (word_split bs)) ∙ take_at (word_of bs) (behind_word bs) (length bs - length (behind_word bs)) l

-- no word stands at the front
pub word_over : (bs : List ℕ) → length bs < 1 → behind_word bs ≡ bs
word_over [] h = refl
word_over (c ∷ cs) h = absurd (omega arith)

pub word_stays : (bs : List ℕ) → ends (get_or bs 0 0) ≡ true → behind_word bs ≡ bs
word_stays [] e = refl
word_stays (c ∷ cs) e = simp e
