-- Rows of the table of lines, and what they stand for. Assumes nothing.
use Rattle.std.specs.Prelude.{ℕ, ◌+◌, ◌<◌, ◌≤◌, false, List, map, length, ℤ, slice_index_or}
use Rattle.tables.specs.declared.fill.Fill.{Fill}
use Rattle.tables.specs.Filled.{filled, slots_of}
use Rattle.formula.specs.Spans.{part, no_span}
use Rattle.lines.specs.declared.entry.Row.{Row}
use Rattle.lines.specs.declared.entry.Entry.{Entry}
use Rattle.lines.specs.Held.{Held}

abbrev pub no_row : Row
no_row = record { number = 0; alive = false; literals = no_span; hints = no_span; link = 0 }

abbrev pub no_entry : Entry
no_entry = record { row = no_row; head = 0 }

abbrev pub row_of : Entry → Row
row_of e = e.row

abbrev pub head_of : Entry → ℕ
head_of e = e.head

-- the lines, and the heads of the buckets in all slots
abbrev pub rows_of : Fill Entry → List Row
rows_of f = map row_of (filled f)

abbrev pub heads_of : Fill Entry → List ℕ
heads_of f = map head_of (slots_of f)

abbrev pub at : List Row → ℕ → Row
at rs k = slice_index_or rs k no_row

-- what a row stands for, over a table of literals and one of hints
abbrev pub held_of : List ℤ → List ℕ → Row → Held
held_of ls hs r = record { line = record { number = r.number; literals = part r.literals ls; hints = part r.hints hs }; alive = r.alive }

-- every run ends within tables of l literals and h hints
abbrev pub Within : ℕ → ℕ → List Row → Type 0
Within l h rs = (k : ℕ) → k < length rs → ((at rs k).literals.at + (at rs k).literals.len ≤ l) × ((at rs k).hints.at + (at rs k).hints.len ≤ h)
