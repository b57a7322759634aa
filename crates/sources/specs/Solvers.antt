-- What each solver's source means, where there is one. Assumes nothing.
use Rattle.std.specs.Prelude.{ℕ, List, [], slice_index_or}
use Rattle.answers.specs.declared.fault.Fault.TheVariants.{NoItem}
use Rattle.source.specs.Items.{Placed, Ending}

-- the clean ending of empty text
abbrev pub no_ending : Ending
no_ending = record { fault = NoItem; place = 0 }

-- a solver without a source has empty text
abbrev pub items_of : List (List Placed) → ℕ → List Placed
items_of xss i = slice_index_or xss i []

abbrev pub ending_of : List Ending → ℕ → Ending
ending_of es i = slice_index_or es i no_ending
