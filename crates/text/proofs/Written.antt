-- What is written is read back: words parted by spaces, decimal numbers, lines.
use Rattle.std.proofs.Common.{◌≡◌, ℕ, zero, suc, ◌^◌, ◌<◌, ◌≤◌, true, false, cond, eqb, leb, List, [], ◌∷◌, ◌++◌, map, length, get_or, ℤ, pos, negsuc, nat_abs, Some, None, decimal, sym, refl, ap, ◌∙◌, inl, inr, append-nil, arith, rules}
use Rattle.std.specs.List.{AllByRecursion}
use Rattle.std.specs.Fmt.{signed_decimal}
use Rattle.std.proofs.lemmas.Bool.{eq-eqb, ne_eqb, le-leb, cases_eq, and_from, or_from}
use Rattle.std.proofs.ByRecursion.{All-from_get_or, All-append, All-weaker}
use Rattle.std.proofs.lemmas.Str.Parse.{IsNumeralModel, numerals_by_fold, digit_at}
use Rattle.std.proofs.lemmas.Fmt.{digits_decimal, digits_value-decimal, decimal_nonempty, first_decimal, decimal_digit}
use Rattle.text.specs.Words.{limit, join_first, lines_of, blank, in_word, glue, words_of, all_digits, value_from, decimal_form, natural, unsigned, negative, token_of, tokens_of}
use Rattle.text.specs.Words.Token.{number}
use Rattle.text.specs.Written.{spaced}

-- a byte of a word
abbrev pub Dark : ℕ → Type 0
Dark c = 32 < c

-- a byte of a word, or a space
abbrev pub Light : ℕ → Type 0
Light c = 32 ≤ c

abbrev pub Word : List ℕ → Type 0
Word [] = ⊥
Word (c ∷ cs) = Dark c × AllByRecursion Dark cs

-- words in a line
not_blank : (c : ℕ) → Dark c → blank c ≡ false
not_blank c h = or_from (eqb c 32) (eqb c 9) (ne_eqb c 32 (λ e. omega arith)) (ne_eqb c 9 (λ e. omega arith))

pub words_word : (w : List ℕ) (c : ℕ) (rest : List ℕ) → Dark c → AllByRecursion Dark w → in_word rest ≡ false → words_of (c ∷ (w ++ rest)) ≡ (c ∷ w) ∷ words_of rest
words_word [] c rest h a e = rw (not_blank c h, e) refl
words_word (d ∷ ds) c rest h a e =
    let ih = words_word ds d rest a.0 a.1 e in
    ap (λ b. cond b (words_of (d ∷ (ds ++ rest))) (glue c (in_word (d ∷ (ds ++ rest))) (words_of (d ∷ (ds ++ rest))))) (not_blank c h) ∙
    (ap (λ b. glue c (cond b false true) (words_of (d ∷ (ds ++ rest)))) (not_blank d a.0) ∙ ap (join_first c) ih)

pub words_spaced : (ws : List (List ℕ)) → AllByRecursion Word ws → words_of (spaced ws) ≡ ws
words_spaced [] h = refl
words_spaced ([] ∷ []) h = absurd h.0
words_spaced ((c ∷ cs) ∷ []) h = ap (λ x. words_of (c ∷ x)) (sym (append-nil cs)) ∙ words_word cs c [] h.0.0 h.0.1 refl
words_spaced ([] ∷ v ∷ ws) h = absurd h.0
words_spaced ((c ∷ cs) ∷ v ∷ ws) h = words_word cs c (32 ∷ spaced (v ∷ ws)) h.0.0 h.0.1 refl ∙ ap (λ r. (c ∷ cs) ∷ r) (words_spaced (v ∷ ws) h.1)

pub tokens_spaced : (ws : List (List ℕ)) → AllByRecursion Word ws → tokens_of (spaced ws) ≡ map token_of ws
tokens_spaced ws h = ap (map token_of) (words_spaced ws h)

-- a line in a text
pub lines_line : (w rest : List ℕ) → AllByRecursion Light w → lines_of (w ++ 10 ∷ rest) ≡ w ∷ lines_of rest
lines_line [] rest h = refl
lines_line (c ∷ cs) rest h =
    let n : eqb c 10 ≡ false = ne_eqb c 10 (λ e. (let x = h.0 in omega arith)) in
    ap (λ b. cond b ([] ∷ lines_of (cs ++ 10 ∷ rest)) (join_first c (lines_of (cs ++ 10 ∷ rest)))) n ∙ ap (join_first c) (lines_line cs rest h.1)

pub word_light : (w : List ℕ) → Word w → AllByRecursion Light w
word_light [] h = absurd h
word_light (c ∷ cs) h = ((let x = h.0 in omega arith), All-weaker Dark Light (λ c d. omega arith) cs h.1)

pub spaced_light : (ws : List (List ℕ)) → AllByRecursion Word ws → AllByRecursion Light (spaced ws)
spaced_light [] h = tt
spaced_light (w ∷ []) h = word_light w h.0
spaced_light (w ∷ v ∷ ws) h = All-append Light w (32 ∷ spaced (v ∷ ws)) (word_light w h.0) (omega arith, spaced_light (v ∷ ws) h.1)

-- decimal numbers
own : IsNumeralModel (λ ds. all_digits ds ≡ true) (value_from 0)
own = numerals_by_fold _ (search rules) value_from (search rules)

small : (n : ℕ) → n ≤ limit → n < 2 ^ 64
small n h = omega arith

first_digit : (n : ℕ) → n ≤ limit → (48 ≤ get_or (decimal n) 0 0) × (get_or (decimal n) 0 0 ≤ 57)
first_digit n h = digit_at (decimal n) 0 (own.to (decimal n) (digits_decimal own n (small n h))) (decimal_nonempty n (small n h))

pub dark_decimal : (n : ℕ) → n ≤ limit → AllByRecursion Dark (decimal n)
dark_decimal n h =
    All-from_get_or Dark (decimal n) 0
    (λ i l. let x = digit_at (decimal n) i (own.to (decimal n) (digits_decimal own n (small n h))) l in (let y = x.0 in omega arith))

word_of_lem : (w : List ℕ) → 0 < length w → AllByRecursion Dark w → Word w
word_of_lem [] l h = absurd (omega arith)
word_of_lem (c ∷ cs) l h = h

pub word_decimal : (n : ℕ) → n ≤ limit → Word (decimal n)
word_decimal n h = word_of_lem (decimal n) (decimal_nonempty n (small n h)) (dark_decimal n h)

pub word_signed : (z : ℤ) → nat_abs z ≤ limit → Word (signed_decimal z)
word_signed (pos n) h = word_decimal n h
word_signed (negsuc n) h = (omega arith, dark_decimal (suc n) h)

form_of : (w : List ℕ) → 0 < length w → all_digits w ≡ true → (get_or w 0 0 ≡ 48 → length w ≡ 1) → decimal_form w ≡ true
form_of [] l a z = absurd (omega arith)
form_of (c ∷ cs) l a z =
    elim (cases_eq c 48) [
      | inl e ↦ ap (λ b. cond b (eqb (length cs) 0) (all_digits (c ∷ cs))) (eq-eqb c 48 e) ∙ eq-eqb (length cs) 0 (omega (arith, z e))
      | inr e ↦ ap (λ b. cond b (eqb (length cs) 0) (all_digits (c ∷ cs))) (ne_eqb c 48 e) ∙ a
    ]

only_zero : (n : ℕ) → n ≤ limit → get_or (decimal n) 0 0 ≡ 48 → length (decimal n) ≡ 1
only_zero zero h e = ap length (decimal_digit 0 (omega arith))
only_zero (suc n) h e = absurd (omega (arith, first_decimal (suc n) (omega arith) (small (suc n) h)))

pub natural_decimal : (n : ℕ) → n ≤ limit → natural (decimal n) ≡ Some n
natural_decimal n h =
    let v = digits_value-decimal own n (small n h) in
    let f = form_of (decimal n) (decimal_nonempty n (small n h)) (digits_decimal own n (small n h)) (only_zero n h) in
    let b = and_from (decimal_form (decimal n)) (leb (value_from 0 (decimal n)) limit) f (le-leb (value_from 0 (decimal n)) limit (omega arith)) in
    ap (λ b. cond b (Some (value_from 0 (decimal n))) None) b ∙ ap Some v

token_plain : (w : List ℕ) → 0 < length w → (get_or w 0 0 ≡ 45 → ⊥) → token_of w ≡ unsigned w (natural w)
token_plain [] l m = absurd (omega arith)
token_plain (c ∷ cs) l m = ap (λ b. cond b (negative (c ∷ cs) (natural cs)) (unsigned (c ∷ cs) (natural (c ∷ cs)))) (ne_eqb c 45 m)

pub token_decimal : (n : ℕ) → n ≤ limit → token_of (decimal n) ≡ number (pos n)
token_decimal n h =
    let d = first_digit n h in
    token_plain (decimal n) (decimal_nonempty n (small n h)) (λ e. omega arith) ∙ ap (unsigned (decimal n)) (natural_decimal n h)

pub token_signed : (z : ℤ) → nat_abs z ≤ limit → token_of (signed_decimal z) ≡ number z
token_signed (pos n) h = token_decimal n h
token_signed (negsuc n) h = ap (negative (45 ∷ decimal (suc n))) (natural_decimal (suc n) h)
