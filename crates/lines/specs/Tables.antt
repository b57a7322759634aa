-- What the tables of lines stand for, and what they hold after a line is stored or killed. Assumes nothing.
use Rattle.std.specs.Prelude.{◌≡◌, ℕ, Bool, true, false, not, ◌&&◌, List, [], ◌∷◌, ◌++◌, map, length, ℤ, Some, None, Option, slice_index, slice_set}
use Rattle.tables.specs.Filled.{filled, slots_of, capacity_of, over, SameLender}
use Rattle.formula.specs.Clauses.{Clause}
use Rattle.formula.specs.Formulas.{variables_of, clauses_of}
use Rattle.lines.specs.declared.addition.Addition.{Addition}
use Rattle.lines.specs.declared.entry.Row.{Row}
use Rattle.lines.specs.declared.lines.Lines.{Lines}
use Rattle.lines.specs.Held.{Line, Held, Sizes, alive, dead_at, all_of, living, clause_named, space_for, outside}
use Rattle.lines.specs.Rows.{row_of, head_of, rows_of, at, held_of}
use Rattle.lines.specs.Index.{bucket_of}

abbrev pub variables_in : Lines → ℕ
variables_in t = variables_of t.formula.now

abbrev pub clauses_in : Lines → List Clause
clauses_in t = clauses_of t.formula.now

-- the lines held, in the order in which they came
abbrev pub held_in : Lines → List Held
held_in t = map (held_of (filled t.literals) (filled t.hints)) (rows_of t.entries)

abbrev pub sizes_of : Lines → Sizes
sizes_of t = record { lines = capacity_of t.entries; literals = capacity_of t.literals; hints = capacity_of t.hints }

-- the clause that a number names
abbrev pub named_in : Lines → ℕ → Option Clause
named_in t h = clause_named (clauses_in t) (living (held_in t)) h

-- a line as it is offered
abbrev pub line_of : Addition → Line
line_of a = record { number = a.number; literals = a.literals.now; hints = a.hints.now }

-- every slot of the tables, those behind the lines too
abbrev pub literal_slots : Lines → List ℤ
literal_slots t = slots_of t.literals

abbrev pub hint_slots : Lines → List ℕ
hint_slots t = slots_of t.hints

abbrev pub row_slots : Lines → List Row
row_slots t = map row_of (slots_of t.entries)

abbrev pub head_slots : Lines → List ℕ
head_slots t = map head_of (slots_of t.entries)

-- the same formula, over the same lent slices
pub record Same (a b : Lines) : Type 0 where
  pub formula : b.formula ≡ a.formula
  pub literals : SameLender a.literals b.literals
  pub hints : SameLender a.hints b.hints
  pub entries : SameLender a.entries b.entries

-- whether a line can be stored: each of its literals is of one of the variables, and there is space
abbrev pub storable : Lines → Line → Bool
storable t l = not (outside (variables_in t) l.literals) && space_for (sizes_of t) (all_of (held_in t)) (length l.literals) (length l.hints)

abbrev pub bucket_in : Lines → ℕ → ℕ
bucket_in t n = bucket_of (length (clauses_in t)) (capacity_of t.entries) n

-- the row of a line to be stored: its runs begin behind the others, and it links to the head of its bucket
abbrev pub row_for : Lines → Line → Row
row_for t l = record { number = l.number; alive = true; literals = record { at = length (filled t.literals); len = length l.literals }; hints = record { at = length (filled t.hints); len = length l.hints }; link = slice_index (head_slots t) (bucket_in t l.number) }

-- b is a with one more line
pub record Stored (a b : Lines) (l : Line) : Type 0 where
  pub held : held_in b ≡ held_in a ++ (alive l ∷ [])
  pub literals : literal_slots b ≡ over (literal_slots a) (length (filled a.literals)) l.literals
  pub hints : hint_slots b ≡ over (hint_slots a) (length (filled a.hints)) l.hints
  pub rows : row_slots b ≡ slice_set (row_slots a) (length (held_in a)) (row_for a l)
  pub heads : head_slots b ≡ slice_set (head_slots a) (bucket_in a l.number) (length (held_in a))
  pub same : Same a b

-- a line that cannot be stored changes nothing
abbrev pub AfterStore : Bool → Lines → Lines → Line → Type 0
AfterStore true a b l = Stored a b l
AfterStore false a b l = b ≡ a

abbrev pub dead_row : Row → Row
dead_row r = record { number = r.number; alive = false; literals = r.literals; hints = r.hints; link = r.link }

-- b is a with line t dead
pub record Killed (a b : Lines) (t : ℕ) : Type 0 where
  pub held : held_in b ≡ dead_at (Some t) (held_in a)
  pub literals : literal_slots b ≡ literal_slots a
  pub hints : hint_slots b ≡ hint_slots a
  pub rows : row_slots b ≡ slice_set (row_slots a) t (dead_row (at (row_slots a) t))
  pub heads : head_slots b ≡ head_slots a
  pub same : Same a b

abbrev pub AfterKill : Option ℕ → Lines → Lines → Type 0
AfterKill (Some t) a b = Killed a b t
AfterKill None a b = b ≡ a
