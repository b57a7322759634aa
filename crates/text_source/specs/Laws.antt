-- What is written is read back. Assumes nothing.
use Rattle.std.specs.Prelude.{◌≡◌, ℕ, ◌≤◌, false, List}
use Rattle.std.specs.List.{AllByRecursion}
use Rattle.answers.specs.declared.fault.Fault.TheVariants.{NoItem}
use Rattle.source.specs.Items.{Item}
use Rattle.source.specs.Limits.{Within}
use Rattle.text.specs.Words.{limit}
use Rattle.text_source.specs.Reading.{reading}
use Rattle.text_source.specs.Texts.{text_of, placed_from}

-- the text of items within the limits reads as exactly these items, in the lines 1, 2, .., and ends cleanly
abbrev pub ReadsBack : Type 0
ReadsBack =
    (n : ℕ) → n ≤ limit → (xs : List Item) → AllByRecursion Within xs →
    reading (text_of n xs) ≡ record { items = placed_from 0 xs; ending = record { fault = NoItem; place = 0 }; stopped = false }
