-- The text of items reads back as these items.
use Rattle.std.proofs.Common.{◌≡◌, ℕ, zero, suc, ◌+◌, ◌-◌, ◌≤◌, Bool, false, cond, ◌&&◌, List, [], ◌∷◌, ◌++◌, map, length, ℤ, pos, negsuc, Some, decimal, Option, refl, ap, ◌∙◌, arith}
use Rattle.std.specs.List.{AllByRecursion}
use Rattle.std.specs.Fmt.{signed_decimal}
use Rattle.std.proofs.lemmas.Bool.{ne_eqb}
use Rattle.answers.specs.declared.fault.Fault.TheVariants.{MisshapenLine, CountLimit, NoItem}
use Rattle.source.specs.Items.{Item, addition, deletion}
use Rattle.source.specs.Limits.{Positive, Literal, Within}
use Rattle.text.specs.Words.{limit, Token, lines_of, token_of}
use Rattle.text.specs.Words.Token.{number, word}
use Rattle.text.specs.Written.{spaced}
use Rattle.text.proofs.Written.{Word, tokens_spaced, lines_line, spaced_light, word_decimal, word_signed, token_decimal, token_signed}
use Rattle.text_source.specs.Parse.{got, off, behind, one_more, is_zero, collect, literal, signless, literals_in, numbers_in, good, wrong, deletion_of, hinted, addition_of, numbered, parse}
use Rattle.text_source.specs.Reading.{Reading, then, line_then, no_lines, unfed, read_lines}
use Rattle.text_source.specs.Texts.{item_words, head_behind, text_of, placed_from}
use Rattle.text_source.specs.Laws.{ReadsBack}

-- a hint or deleted number as a token
abbrev plain : ℕ → Token
plain n = number (pos n)

zero_token : token_of (decimal 0) ≡ number (pos 0)
zero_token = token_decimal 0 (omega arith)

zero_word : Word (decimal 0)
zero_word = word_decimal 0 (omega arith)

tokens_literals : (zs : List ℤ) → AllByRecursion Literal zs → (rest : List (List ℕ)) → map token_of (map signed_decimal zs ++ rest) ≡ map number zs ++ map token_of rest
tokens_literals [] h rest = refl
tokens_literals (z ∷ zs) h rest =
    ap (λ t. t ∷ map token_of (map signed_decimal zs ++ rest)) (token_signed z h.0.1) ∙ ap (λ ts. number z ∷ ts) (tokens_literals zs h.1 rest)

tokens_numbers : (ns : List ℕ) → AllByRecursion Positive ns → (rest : List (List ℕ)) → map token_of (map decimal ns ++ rest) ≡ map plain ns ++ map token_of rest
tokens_numbers [] h rest = refl
tokens_numbers (n ∷ ns) h rest =
    ap (λ t. t ∷ map token_of (map decimal ns ++ rest)) (token_decimal n h.0.1) ∙ ap (λ ts. plain n ∷ ts) (tokens_numbers ns h.1 rest)

words_literals : (zs : List ℤ) → AllByRecursion Literal zs → (rest : List (List ℕ)) → AllByRecursion Word rest → AllByRecursion Word (map signed_decimal zs ++ rest)
words_literals [] h rest a = a
words_literals (z ∷ zs) h rest a = (word_signed z h.0.1, words_literals zs h.1 rest a)

words_numbers : (ns : List ℕ) → AllByRecursion Positive ns → (rest : List (List ℕ)) → AllByRecursion Word rest → AllByRecursion Word (map decimal ns ++ rest)
words_numbers [] h rest a = a
words_numbers (n ∷ ns) h rest a = (word_decimal n h.0.1, words_numbers ns h.1 rest a)

-- numbers up to a 0
module _ {A : Type 0} (keep : ℤ → Option A) (f : A → ℤ) where
  abbrev Kept : A → Type 0
  Kept x = (is_zero (f x) ≡ false) × (keep (f x) ≡ Some x)

  collect_run : (xs : List A) (k : ℕ) (ts : List Token) → AllByRecursion Kept xs → length xs ≤ k → collect keep k (map (λ x. number (f x)) xs ++ number (pos 0) ∷ ts) ≡ got xs ts
  collect_run [] k ts h l = refl
  collect_run (x ∷ xs) zero ts h l = absurd (omega arith)
  collect_run (x ∷ xs) (suc k) ts h l =
      let s : suc k - 1 ≡ k = omega arith in
      let rest = map (λ x. number (f x)) xs ++ number (pos 0) ∷ ts in
      ap (λ b. cond b (got [] rest) (one_more (suc k) (keep (f x)) (collect keep (suc k - 1) rest))) h.0.0 ∙
      (ap (λ o. one_more (suc k) o (collect keep (suc k - 1) rest)) h.0.1 ∙
      (ap (λ b. cond b (off CountLimit) (behind x (collect keep (suc k - 1) rest))) (ne_eqb (suc k) 0 (λ e. omega arith)) ∙
      (ap (λ m. behind x (collect keep m rest)) s ∙ ap (behind x) (collect_run xs k ts h.1 (omega arith)))))

nonzero : (z : ℤ) → Literal z → is_zero z ≡ false
nonzero (pos n) h = ne_eqb n 0 (λ e. (let x = h.0 in omega arith))
nonzero (negsuc n) h = refl

kept_literals : (zs : List ℤ) → AllByRecursion Literal zs → AllByRecursion (Kept literal (λ z. z)) zs
kept_literals [] h = tt
kept_literals (z ∷ zs) h = ((nonzero z h.0, refl), kept_literals zs h.1)

kept_numbers : (ns : List ℕ) → AllByRecursion Positive ns → AllByRecursion (Kept signless pos) ns
kept_numbers [] h = tt
kept_numbers (n ∷ ns) h = ((nonzero (pos n) h.0, refl), kept_numbers ns h.1)

-- an item's line
numbered_addition : (n : ℕ) (zs : List ℤ) (ts : List Token) → Positive n → numbered n (map number zs ++ number (pos 0) ∷ ts) ≡ addition_of n (literals_in (map number zs ++ number (pos 0) ∷ ts))
numbered_addition n [] ts p = ap (λ b. cond b (wrong MisshapenLine) (addition_of n (literals_in (number (pos 0) ∷ ts)))) (nonzero (pos n) p)
numbered_addition n (z ∷ zs) ts p = ap (λ b. cond b (wrong MisshapenLine) (addition_of n (literals_in (map number (z ∷ zs) ++ number (pos 0) ∷ ts)))) (nonzero (pos n) p)

numbers_back : (ns : List ℕ) → AllByRecursion Positive ns → length ns ≤ 256 → numbers_in (map token_of (map decimal ns ++ decimal 0 ∷ [])) ≡ got ns []
numbers_back ns a l =
    ap numbers_in (tokens_numbers ns a (decimal 0 ∷ []) ∙ ap (λ t. map plain ns ++ t ∷ []) zero_token) ∙ collect_run signless pos ns 256 [] (kept_numbers ns a) l

parse_item : (n : ℕ) → n ≤ limit → (x : Item) → Within x → parse (map token_of (item_words n x)) ≡ good x
parse_item n h (addition m ls hs) w =
    let hints = map token_of (map decimal hs ++ decimal 0 ∷ []) in
    ap (λ t. parse (t ∷ map token_of (map signed_decimal ls ++ decimal 0 ∷ (map decimal hs ++ decimal 0 ∷ [])))) (token_decimal m w.0.1) ∙
    (ap (numbered m) (tokens_literals ls w.1 (decimal 0 ∷ (map decimal hs ++ decimal 0 ∷ [])) ∙ ap (λ t. map number ls ++ t ∷ hints) zero_token) ∙
    (numbered_addition m ls hints w.0 ∙
    (ap (addition_of m) (collect_run literal (λ z. z) ls 64 hints (kept_literals ls w.1) w.2) ∙ ap (hinted m ls) (numbers_back hs w.3 w.4))))
parse_item n h (deletion ns) w =
    ap (λ t. parse (t ∷ word (100 ∷ []) ∷ map token_of (map decimal ns ++ decimal 0 ∷ []))) (token_decimal n h) ∙ ap deletion_of (numbers_back ns w.0 w.1)

words_item : (n : ℕ) → n ≤ limit → (x : Item) → Within x → AllByRecursion Word (item_words n x)
words_item n h (addition m ls hs) w = (word_decimal m w.0.1, words_literals ls w.1 _ (zero_word, words_numbers hs w.3 _ (zero_word, tt)))
words_item n h (deletion ns) w = (word_decimal n h, ((omega arith, tt), words_numbers ns w.0 _ (zero_word, tt)))

line_item : (n place : ℕ) (stop : Bool) (x : Item) (r : Reading) → parse (map token_of (item_words n x)) ≡ good x → line_then place stop (map token_of (item_words n x)) r ≡ then place stop (good x) r
line_item n place stop (addition m ls hs) r e = ap (λ p. then place stop p r) e
line_item n place stop (deletion ns) r e = ap (λ p. then place stop p r) e

head_low : (n : ℕ) → n ≤ limit → (x : Item) → Within x → head_behind n x ≤ limit
head_low n h (addition m ls hs) w = w.0.1
head_low n h (deletion ns) w = h

lines_back : (cut : Bool) (xs : List Item) (n p : ℕ) → n ≤ limit → AllByRecursion Within xs → read_lines cut p (lines_of (text_of n xs)) ≡ record { items = placed_from p xs; ending = record { fault = NoItem; place = 0 }; stopped = false }
lines_back cut [] n p h a = refl
lines_back cut (x ∷ xs) n p h a =
    let rest = text_of (head_behind n x) xs in
    let stop = cut && no_lines (lines_of rest) in
    let ws = words_item n h x a.0 in
    ap (read_lines cut p) (lines_line (spaced (item_words n x)) rest (spaced_light (item_words n x) ws)) ∙
    (ap (λ ts. line_then (p + 1) stop ts (read_lines cut (p + 1) (lines_of rest))) (tokens_spaced (item_words n x) ws) ∙
    (line_item n (p + 1) stop x (read_lines cut (p + 1) (lines_of rest)) (parse_item n h x a.0) ∙
    ap (then (p + 1) stop (good x)) (lines_back cut xs (head_behind n x) (p + 1) (head_low n h x a.0) a.1)))

pub reads_back : ReadsBack
reads_back n h xs a = lines_back (unfed (text_of n xs)) xs n 0 h a
