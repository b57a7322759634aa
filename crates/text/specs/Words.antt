-- Text as every text format here has it: lines, words, decimal numbers, tokens. Assumes nothing.
use Rattle.std.specs.Prelude.{ℕ, zero, suc, ◌+◌, ◌-◌, ◌*◌, Bool, true, false, cond, ◌&&◌, ◌||◌, List, [], ◌∷◌, map, length, ℤ, pos, negsuc, Some, None, Option, ◌==◌, nat_le}

-- no number in a file is beyond this in size
abbrev pub limit : ℕ
limit = 2147483647

-- c goes in front of the first of some lines or words
abbrev pub join_first : ℕ → List (List ℕ) → List (List ℕ)
join_first c [] = (c ∷ []) ∷ []
join_first c (r ∷ rs) = (c ∷ r) ∷ rs

-- lines end with a line feed, which the last may lack; a line feed at the very end begins no further line
abbrev pub lines_of : List ℕ → List (List ℕ)
lines_of [] = []
lines_of (c ∷ cs) = cond (c == 10) ([] ∷ lines_of cs) (join_first c (lines_of cs))

-- spaces and tabs, and nothing else, part the words of a line
abbrev pub blank : ℕ → Bool
blank c = c == 32 || c == 9

-- whether a text begins inside a word
abbrev pub in_word : List ℕ → Bool
in_word [] = false
in_word (c ∷ cs) = cond (blank c) false true

-- c begins a word of its own, or goes on with the word behind it
abbrev pub glue : ℕ → Bool → List (List ℕ) → List (List ℕ)
glue c false ws = (c ∷ []) ∷ ws
glue c true ws = join_first c ws

abbrev pub words_of : List ℕ → List (List ℕ)
words_of [] = []
words_of (c ∷ cs) = cond (blank c) (words_of cs) (glue c (in_word cs) (words_of cs))

abbrev pub digit : ℕ → Bool
digit c = nat_le 48 c && nat_le c 57

abbrev pub all_digits : List ℕ → Bool
all_digits [] = true
all_digits (c ∷ cs) = digit c && all_digits cs

-- the value of digits that follow a number n
abbrev pub value_from : ℕ → List ℕ → ℕ
value_from n [] = n
value_from n (c ∷ cs) = value_from (n * 10 + (c - 48)) cs

-- 0, or digits without a leading zero
abbrev pub decimal_form : List ℕ → Bool
decimal_form [] = false
decimal_form (c ∷ cs) = cond (c == 48) (length cs == 0) (all_digits (c ∷ cs))

-- the decimal number, without a sign and within the limit, that a word is
abbrev pub natural : List ℕ → Option ℕ
natural w = cond (decimal_form w && nat_le (value_from 0 w) limit) (Some (value_from 0 w)) None

-- a word is a number, or some other word
pub data Token : Type 0 where
  number : ℤ → Token
  word : List ℕ → Token

abbrev pub unsigned : List ℕ → Option ℕ → Token
unsigned w None = word w
unsigned w (Some n) = number (pos n)

-- behind a minus sign: there is no -0
abbrev pub negative : List ℕ → Option ℕ → Token
negative w None = word w
negative w (Some zero) = word w
negative w (Some (suc n)) = number (negsuc n)

-- `-` stands directly before a negative number
abbrev pub token_of : List ℕ → Token
token_of [] = word []
token_of (c ∷ cs) = cond (c == 45) (negative (c ∷ cs) (natural cs)) (unsigned (c ∷ cs) (natural (c ∷ cs)))

abbrev pub tokens_of : List ℕ → List Token
tokens_of line = map token_of (words_of line)
