-- What is left of a text at a cursor, for every value of its fields. Assumes nothing.
use Rattle.std.specs.Prelude.{◌≡◌, ℕ, ◌^◌, cond, ◌&&◌, List, length, drop, nat_le, nat_lt}
use Rattle.source.specs.Items.{Placed, Ending, behind_first}
use Rattle.source.specs.declared.head.Mark.{Mark}
use Rattle.text.specs.Words.{lines_of}
use Rattle.text_source.specs.Reading.{Reading, clean, unfed, read_lines}
use Rattle.text_source.specs.declared.cursor.TextSource.{TextSource}

-- the reading from a position on, behind some lines
abbrev pub read_from : List ℕ → ℕ → ℕ → Reading
read_from bytes at lines = read_lines (unfed bytes) lines (lines_of (drop at bytes))

-- nothing is left where no cursor comes: behind more lines than bytes, or in a text that no memory holds
abbrev pub left : List ℕ → ℕ → ℕ → Reading
left bytes at lines = cond (nat_le lines at && nat_lt (length bytes) (2 ^ 64)) (read_from bytes at lines) clean

abbrev pub items_left : TextSource → List Placed
items_left t = (left t.bytes.now t.at t.lines).items

abbrev pub ending_left : TextSource → Ending
ending_left t = (left t.bytes.now t.at t.lines).ending

-- what is left at a mark is all but the first item
abbrev pub LeadsOn : TextSource → Mark → Type 0
LeadsOn t m = ((left t.bytes.now m.at m.place).items ≡ behind_first (items_left t)) × ((left t.bytes.now m.at m.place).ending ≡ ending_left t)
