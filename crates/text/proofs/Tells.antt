-- What the scanner's steps tell of the tokens left.
use Rattle.std.proofs.Common.{◌≡◌, ℕ, ◌-◌, ◌<◌, ◌≤◌, true, false, eqb, List, [], ◌∷◌, map, length, None, sym, refl, ap, ◌∙◌, inl, inr, arith}
use Rattle.std.proofs.lemmas.Bool.{eqb-false, ne_eqb, cases_eq, cases_Bool, or_from}
use Rattle.std.proofs.lemmas.Option.{none-some}
use Rattle.text.specs.Words.{blank, digit, token_of, natural, Token}
use Rattle.text.specs.Fronts.{ends, unblanked, behind_word, word_of, at_end, number_from, behind_line, fed, tokens_left, Natural, Sized, Goes, Stops, Ends}
use Rattle.text.proofs.Steps.{digit_goes, number_ends}
use Rattle.text.proofs.Firsts.{word_length, word_first, line_word, feed_word, tokens_unblanked, line_unblanked, feed_unblanked, word_none, word_some, zero_only, zero_more, first_digit}

-- the digits behind a first one make no number
pub nat_none : (c : ℕ) (cs : List ℕ) → digit c ≡ true → number_from (c - 48) cs ≡ None → natural (word_of (c ∷ cs)) ≡ None
nat_none c cs d e =
    elim (cases_eq c 48) [
      | inl z ↦ elim (cases_Bool (at_end cs)) [
        | inl a ↦ absurd (none-some 0 (sym e ∙ ap (λ c. number_from (c - 48) cs) z ∙ number_ends cs 0 a (omega arith)))
        | inr a ↦ ap (λ c. natural (word_of (c ∷ cs))) z ∙ zero_more cs a
      ]
      | inr z ↦ first_digit c cs d (ne_eqb c 48 z) ∙ e
    ]

-- nor do digits behind a zero
pub nat_zero : (c : ℕ) (cs : List ℕ) (n : ℕ) (rest : List ℕ) → c ≡ 48 → Sized cs (c - 48) n rest → length rest < length cs → natural (word_of (c ∷ cs)) ≡ None
nat_zero c cs n rest z k l =
    elim (cases_Bool (at_end cs)) [
      | inl a ↦ absurd (omega (arith, word_length cs, ap length (word_none cs a), ap length k.word))
      | inr a ↦ ap (λ c. natural (word_of (c ∷ cs))) z ∙ zero_more cs a
    ]

pub nat_sized : (c : ℕ) (cs : List ℕ) (n : ℕ) (rest : List ℕ) → digit c ≡ true → (c ≡ 48 → length cs ≤ length rest) → Sized cs (c - 48) n rest → Natural (c ∷ cs) n rest
nat_sized c cs n rest d s k = record {
  is = elim (cases_eq c 48) [
    | inl z ↦ elim (cases_Bool (at_end cs)) [
      | inl a ↦ ap (λ c. natural (word_of (c ∷ cs))) z ∙ zero_only cs a ∙ sym (number_ends cs 0 a (omega arith)) ∙ ap (λ c. number_from (c - 48) cs) (sym z) ∙ k.is
      | inr a ↦ absurd (eqb-false (length (word_of cs)) 0 (word_some cs a) (omega (arith, word_length cs, ap length k.word, s z)))
    ]
    | inr z ↦ first_digit c cs d (ne_eqb c 48 z) ∙ k.is
  ];
  word = let e = digit_goes c d in simp e k.word;
  low = k.low;
}

-- behind the blanks at the front
front_dark : (bs : List ℕ) (c : ℕ) (cs : List ℕ) → unblanked bs ≡ c ∷ cs → blank c ≡ false
front_dark [] c cs e = absurd (let l = ap length e in omega arith)
front_dark (b ∷ bs) c cs e =
    elim (cases_Bool (blank b)) [
      | inl p ↦ front_dark bs c cs (simp p at e)
      | inr p ↦ let q : b ∷ bs ≡ c ∷ cs = simp p at e in let h : b ≡ c = cc in ap blank (sym h) ∙ p
    ]

pub told_end : (text front : List ℕ) → front ≡ unblanked text → length front ≡ 0 → Ends text
told_end text (c ∷ cs) f e = absurd (omega arith)
told_end text [] f e =
    let u = sym f in
    record { tokens = tokens_unblanked text ∙ ap tokens_left u; line = line_unblanked text ∙ ap behind_line u; feed = feed_unblanked text ∙ ap fed u }

front_length : (bs : List ℕ) → length (unblanked bs) ≤ length bs
front_length [] = omega arith
front_length (b ∷ bs) = elim (cases_Bool (blank b)) [ inl p ↦ let h = front_length bs in simp p (omega (arith, h)) | inr p ↦ simp p (omega arith) ]

pub told_feed : (text front : List ℕ) (c : ℕ) (cs : List ℕ) → front ≡ unblanked text → front ≡ c ∷ cs → c ≡ 10 → Stops text cs
told_feed text front c cs f e z =
    let u : unblanked text ≡ 10 ∷ cs = sym f ∙ e ∙ ap (λ c. c ∷ cs) z in
    record { tokens = tokens_unblanked text ∙ ap tokens_left u; line = line_unblanked text ∙ ap behind_line u; feed = feed_unblanked text ∙ ap fed u; shorter = omega (arith, front_length text, ap length u) }

-- a word at the front
module _ (text front : List ℕ) (c : ℕ) (cs : List ℕ) (f : front ≡ unblanked text) (e : front ≡ c ∷ cs) (z : c ≡ 10 → ⊥) where
  front_goes : ends c ≡ false
  front_goes = or_from (blank c) (eqb c 10) (front_dark text c cs (sym f ∙ e)) (ne_eqb c 10 z)

  first_token : tokens_left front ≡ token_of (word_of front) ∷ tokens_left (behind_word front)
  first_token = rw e (ap (map token_of) (word_first c cs front_goes))

  pub word_nonempty : (w : List ℕ) → w ≡ word_of front → 0 < length w
  word_nonempty w is = rw (is ∙ ap word_of e) (let g = front_goes in simp g (omega arith))

  pub told_goes : (t : Token) (rest : List ℕ) → token_of (word_of front) ≡ t → rest ≡ behind_word front → Goes text t rest
  told_goes t rest is r = record {
    tokens = tokens_unblanked text ∙ ap tokens_left (sym f) ∙ first_token ∙ ap (λ x. x ∷ tokens_left (behind_word front)) is ∙ ap (λ x. t ∷ tokens_left x) (sym r);
    word = r ∙ ap behind_word f;
    line = line_unblanked text ∙ ap behind_line (sym f) ∙ line_word front ∙ ap behind_line (sym r);
    feed = feed_unblanked text ∙ ap fed (sym f) ∙ feed_word front ∙ ap fed (sym r);
    shorter = omega (arith, front_length text, ap length f, word_length front, ap length r, word_nonempty (word_of front) refl);
  }
