-- The lines of a formula file that say something. Assumes nothing.
use Rattle.std.specs.Prelude.{ℕ, ◌+◌, Bool, true, false, List, [], ◌∷◌, ◌==◌}
use Rattle.text.specs.Words.{Token, lines_of, tokens_of}

-- a line whose first byte is the letter c is a comment
abbrev pub comment : List ℕ → Bool
comment [] = false
comment (c ∷ cs) = c == 99

-- a line that is neither blank nor a comment: its number, counted from 1, and its tokens
pub record Row : Type 0 where
  pub line : ℕ
  pub tokens : List Token

-- line n goes before others, unless it is a comment or blank
abbrev pub with_line : ℕ → Bool → List Token → List Row → List Row
with_line n true ts rs = rs
with_line n false [] rs = rs
with_line n false (t ∷ ts) rs = record { line = n; tokens = t ∷ ts } ∷ rs

-- the rows among lines that stand behind n others
abbrev pub rows_behind : ℕ → List (List ℕ) → List Row
rows_behind n [] = []
rows_behind n (l ∷ ls) = with_line (n + 1) (comment l) (tokens_of l) (rows_behind (n + 1) ls)

abbrev pub rows_of : List ℕ → List Row
rows_of bytes = rows_behind 0 (lines_of bytes)
