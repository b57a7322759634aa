-- What the reader's steps tell of the rows and tokens of the text that is left. Assumes nothing.
use Rattle.std.specs.Prelude.{◌≡◌, ℕ, ◌+◌, ◌<◌, ◌≤◌, Bool, false, cond, List, [], ◌∷◌, ◌++◌, length, ℤ, pos, Some, None, Ok, Err, Option, Result, ◌==◌}
use denote.Bor.{Bor}
use Rattle.answers.specs.declared.fault.Fault.{Fault}
use Rattle.answers.specs.declared.fault.Fault.TheVariants.{ClauseCount}
use Rattle.answers.specs.declared.refusal.Refusal.{Refusal}
use Rattle.answers.specs.Refusals.{refusal_at}
use Rattle.text.specs.Words.{Token, lines_of}
use Rattle.text.specs.Words.Token.{number, word}
use Rattle.text.specs.Fronts.{tokens_left, behind_line, Goes}
use Rattle.formula.specs.Clauses.{Clause, ClauseOf}
use Rattle.formula.specs.Rows.{Row, rows_behind}
use Rattle.formula.specs.Reading.{is_word, number_in, header_of, closed, clause_of, Reading, formula, refused, read_clauses, reading}
use Rattle.formula.specs.declared.clauses.Header.{Header}
use Rattle.formula.specs.declared.clauses.Clauses.{Clauses}

-- the rows of a text, where a line begins that stands behind n others
abbrev pub rows_at : List ℕ → ℕ → List Row
rows_at text n = rows_behind n (lines_of text)

-- the next row, whose line is number `line` of the text, counted from 1, and the first of `rest`
pub record RowAt (text rest : List ℕ) (line : ℕ) : Type 0 where
  pub rows : (n : ℕ) → rows_at text n ≡ record { line = n + line; tokens = tokens_left rest } ∷ rows_at (behind_line rest) (n + line)
  pub first : 1 ≤ line
  pub few : line + length (behind_line rest) ≤ length text

abbrev pub Sought : List ℕ → Option (Bor (List ℕ) × ℕ) → Type 0
Sought text None = (n : ℕ) → rows_at text n ≡ []
Sought text (Some p) = RowAt text p.0.now p.1

-- the first of some tokens
abbrev pub begins : List ℕ → List Token → Bool
begins w [] = false
begins w (t ∷ ts) = is_word w t

abbrev pub first_in : ℕ → ℕ → List Token → Option ℕ
first_in low high [] = None
first_in low high (t ∷ ts) = number_in low high t

abbrev pub Keyword : List ℕ → List ℕ → Option (Bor (List ℕ)) → Type 0
Keyword text w (Some rest) = Goes text (word w) rest.now
Keyword text w None = begins w (tokens_left text) ≡ false

abbrev pub Counted : List ℕ → ℕ → ℕ → Option (ℕ × Bor (List ℕ)) → Type 0
Counted text low high (Some p) = Goes text (number (pos p.0)) p.1.now × (low ≤ p.0) × (p.0 ≤ high)
Counted text low high None = first_in low high (tokens_left text) ≡ None

-- the line at the front is the header
abbrev pub HeaderAt : List ℕ → Option (Header × Bor (List ℕ)) → Type 0
HeaderAt text (Some p) = (header_of (tokens_left text) ≡ Some (record { variables = p.0.variables; clauses = p.0.clauses })) × (p.1.now ≡ behind_line text)
HeaderAt text None = header_of (tokens_left text) ≡ None

-- the 0 of a clause stands before the text; its literals are any
abbrev pub Closes : List ℕ → Bool → Result (Bor (List ℕ)) Fault → Type 0
Closes text surplus (Ok rest) = ((ls : Clause) → closed surplus ls (tokens_left text) ≡ Ok ls) × (rest.now ≡ behind_line text)
Closes text surplus (Err f) = (ls : Clause) → closed surplus ls (tokens_left text) ≡ Err f

-- the line at the front is a clause
abbrev pub ClauseAt : List ℕ → ℕ → Bool → Result (Bor (List ℤ) × Bor (List ℕ)) Fault → Type 0
ClauseAt text v surplus (Ok p) = (clause_of v surplus (tokens_left text) ≡ Ok p.0.now) × (p.1.now ≡ behind_line text)
ClauseAt text v surplus (Err f) = clause_of v surplus (tokens_left text) ≡ Err f

-- how a file reads on, whose clauses so far are cs
abbrev pub reads_on : Clauses → List Clause → Reading
reads_on c cs = read_clauses c.header.variables c.header.clauses cs (rows_at c.rest.now c.lines)

-- a reading that the refusal e says
abbrev pub Refuses : Reading → Refusal → Type 0
Refuses r e = (r ≡ refused e.fault e.place) × (e ≡ refusal_at e.fault e.place)

-- behind the header of a file no clause is read yet
abbrev pub ClausesOf : List ℕ → Result Clauses Refusal → Type 0
ClausesOf text (Ok c) = (reading text ≡ reads_on c []) × (c.count ≡ 0)
ClausesOf text (Err e) = Refuses (reading text) e

-- one clause is read
pub record NextClause (before after : Clauses) (c : Clause) : Type 0 where
  pub is : (cs : List Clause) → length cs ≡ before.count → reads_on before cs ≡ reads_on after (cs ++ c ∷ [])
  pub within : ClauseOf before.header.variables c
  pub header : after.header ≡ before.header
  pub count : after.count ≡ before.count + 1
  pub shorter : length after.rest.now < length before.rest.now

-- the next clause, if one is left
abbrev pub NextAt : Clauses → Clauses → Result (Option (Bor (List ℤ))) Refusal → Type 0
NextAt before after (Ok None) = (after ≡ before) × ((cs : List Clause) → reads_on before cs ≡ cond (length cs == before.header.clauses) (formula before.header.variables cs) (refused ClauseCount 0))
NextAt before after (Ok (Some c)) = NextClause before after c.now
NextAt before after (Err e) = (cs : List Clause) → length cs ≡ before.count → Refuses (reads_on before cs) e
