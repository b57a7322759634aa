-- Marks behind the first item of a source. Assumes nothing.
use Rattle.std.specs.Prelude.{List, Ok, Err, Result}
use Rattle.answers.specs.declared.refusal.Refusal.{Refusal}
use Rattle.source.specs.declared.head.Head.{Head}
use Rattle.source.specs.declared.head.Mark.{Mark}
use Rattle.source.specs.Items.{Placed, behind_first}

abbrev pub unmarked : Result (Head × Mark) Refusal → Result Head Refusal
unmarked (Ok p) = Ok p.0
unmarked (Err e) = Err e

-- a mark that is answered leads behind the first item
abbrev pub Leads : (Mark → Type 0) → Result (Head × Mark) Refusal → Type 0
Leads P (Ok p) = P p.1
Leads P (Err e) = Unit {0}

abbrev pub dropped_if : Result Head Refusal → List Placed → List Placed
dropped_if (Ok h) xs = behind_first xs
dropped_if (Err e) xs = xs
