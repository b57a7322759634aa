-- The front of a text: its first line, what stands behind that, the tokens left in it; and what a scan tells.
-- Assumes nothing.
use Rattle.std.specs.Prelude.{◌≡◌, ℕ, ◌+◌, ◌-◌, ◌*◌, ◌<◌, ◌≤◌, Bool, true, false, cond, ◌||◌, List, [], ◌∷◌, length, ℤ, Some, None, Option, ◌==◌, nat_le}
use denote.Bor.{Bor}
use Rattle.text.specs.Words.{limit, blank, digit, natural, Token, token_of, tokens_of}
use Rattle.text.specs.Words.Token.{number, word}
use Rattle.text.specs.declared.scan.Scan.{Scan}
use Rattle.text.specs.declared.scan.Scan.TheVariants.{Number, Word, LineEnd, TextEnd}

-- the first line, without its line feed
abbrev pub line_of : List ℕ → List ℕ
line_of [] = []
line_of (c ∷ cs) = cond (c == 10) [] (c ∷ line_of cs)

-- what stands behind the first line and its line feed
abbrev pub behind_line : List ℕ → List ℕ
behind_line [] = []
behind_line (c ∷ cs) = cond (c == 10) cs (behind_line cs)

-- whether a line feed ends the first line, and not the end of the text
abbrev pub fed : List ℕ → Bool
fed [] = false
fed (c ∷ cs) = cond (c == 10) true (fed cs)

-- the tokens that are left in the first line
abbrev pub tokens_left : List ℕ → List Token
tokens_left bs = tokens_of (line_of bs)

abbrev pub no_tokens : List Token → Bool
no_tokens [] = true
no_tokens (t ∷ ts) = false

-- a byte that ends a word
abbrev pub ends : ℕ → Bool
ends c = blank c || c == 10

-- without the blanks at the front
abbrev pub unblanked : List ℕ → List ℕ
unblanked [] = []
unblanked (c ∷ cs) = cond (blank c) (unblanked cs) (c ∷ cs)

-- the word at the front, and what stands behind it
abbrev pub word_of : List ℕ → List ℕ
word_of [] = []
word_of (c ∷ cs) = cond (ends c) [] (c ∷ word_of cs)

abbrev pub behind_word : List ℕ → List ℕ
behind_word [] = []
behind_word (c ∷ cs) = cond (ends c) (c ∷ cs) (behind_word cs)

-- whether no byte of a word stands at the front
abbrev pub at_end : List ℕ → Bool
at_end [] = true
at_end (c ∷ cs) = ends c

abbrev pub within : ℕ → Option ℕ
within n = cond (nat_le n limit) (Some n) None

-- the number that the digits up to the end of the word make behind n
abbrev pub number_from : ℕ → List ℕ → Option ℕ
number_from n [] = within n
number_from n (c ∷ cs) = cond (ends c) (within n) (cond (digit c) (number_from (n * 10 + (c - 48)) cs) None)

-- the line goes on with the token t, behind whose word `rest` stands
pub record Goes (text : List ℕ) (t : Token) (rest : List ℕ) : Type 0 where
  pub tokens : tokens_left text ≡ t ∷ tokens_left rest
  pub word : rest ≡ behind_word (unblanked text)
  pub line : behind_line text ≡ behind_line rest
  pub feed : fed text ≡ fed rest
  pub shorter : length rest < length text

-- no token is left in the line, which a line feed ends: `rest` stands behind that
pub record Stops (text rest : List ℕ) : Type 0 where
  pub tokens : tokens_left text ≡ []
  pub line : behind_line text ≡ rest
  pub feed : fed text ≡ true
  pub shorter : length rest < length text

-- no token is left in the line, and no line behind it
pub record Ends (text : List ℕ) : Type 0 where
  pub tokens : tokens_left text ≡ []
  pub line : behind_line text ≡ []
  pub feed : fed text ≡ false

-- what a scan tells
abbrev pub Told : List ℕ → Scan → Type 0
Told text (Number z rest) = Goes text (number z) rest.now
Told text (Word w rest) = Goes text (word w.now) rest.now × (0 < length w.now)
Told text (LineEnd rest) = Stops text rest.now
Told text TextEnd = Ends text

-- what the digits of a word behind a number come to, and what stands behind the word
pub record Sized (text : List ℕ) (first n : ℕ) (rest : List ℕ) : Type 0 where
  pub is : number_from first text ≡ Some n
  pub word : rest ≡ behind_word text
  pub low : n ≤ limit

abbrev pub Digits : List ℕ → ℕ → Option (ℕ × Bor (List ℕ)) → Type 0
Digits text first None = number_from first text ≡ None
Digits text first (Some p) = Sized text first p.0 p.1.now

-- the number that the word at the front is, and what stands behind the word
pub record Natural (text : List ℕ) (n : ℕ) (rest : List ℕ) : Type 0 where
  pub is : natural (word_of text) ≡ Some n
  pub word : rest ≡ behind_word text
  pub low : n ≤ limit

abbrev pub Naturals : List ℕ → Option (ℕ × Bor (List ℕ)) → Type 0
Naturals text None = natural (word_of text) ≡ None
Naturals text (Some p) = Natural text p.0 p.1.now

-- the word at the front as a number, or as it stands
abbrev pub Numbers : List ℕ → Option (ℤ × Bor (List ℕ)) → Type 0
Numbers text None = token_of (word_of text) ≡ word (word_of text)
Numbers text (Some p) = (token_of (word_of text) ≡ number p.0) × (p.1.now ≡ behind_word text)
