-- Laws of the reading. Assumes nothing.
use Rattle.std.specs.Prelude.{◌≡◌, ℕ, ◌+◌, ◌^◌, ◌<◌, false, List, [], ◌∷◌, length}
use Rattle.std.specs.List.{AllByRecursion}
use Rattle.answers.specs.declared.fault.Fault.TheVariants.{NoItem}
use Rattle.source.specs.Items.{Item, Placed}
use Rattle.source.specs.Limits.{Within}
use Rattle.record_source.specs.Reading.{Reading, reading}
use Rattle.record_source.specs.Written.{records_of}

-- items at the places from p on
abbrev pub placed_from : ℕ → List Item → List Placed
placed_from p [] = []
placed_from p (x ∷ xs) = record { item = x; place = p } ∷ placed_from (p + 1) xs

-- all items from place p on, and a clean ending
abbrev pub whole : ℕ → List Item → Reading
whole p xs = record { items = placed_from p xs; ending = record { fault = NoItem; place = 0 }; stopped = false }

-- items within the limits that are written as records are read back, with the places 1, 2, ..
abbrev pub ReadsBack : Type 0
ReadsBack = (xs : List Item) → AllByRecursion Within xs → length xs < 2 ^ 31 → reading (records_of xs) ≡ whole 1 xs
