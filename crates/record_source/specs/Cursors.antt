-- What a record source means. Assumes nothing.
use Rattle.std.specs.Prelude.{◌≡◌, List}
use Rattle.source.specs.Items.{Placed, Ending, behind_first}
use Rattle.source.specs.declared.head.Mark.{Mark}
use Rattle.record_source.specs.Lefts.{left}
use Rattle.record_source.specs.declared.cursor.RecordSource.{RecordSource}

-- the items from the cursor on
abbrev pub items_left : RecordSource → List Placed
items_left s = (left s.bytes.now s.mark.at s.mark.place s.mark.additions).items

-- their ending
abbrev pub ending_left : RecordSource → Ending
ending_left s = (left s.bytes.now s.mark.at s.mark.place s.mark.additions).ending

-- what is left at the mark is all but the first item
abbrev pub LeadsOn : RecordSource → Mark → Type 0
LeadsOn s m = ((left s.bytes.now m.at m.place m.additions).items ≡ behind_first (items_left s)) × ((left s.bytes.now m.at m.place m.additions).ending ≡ ending_left s)
