-- What was read fills the front of the row, and the fields that are wanted stand at the front of what is left.
use Rattle.std.proofs.Common.{◌≡◌, ◌-◌, length, take}
use Rattle.record_source.specs.Fields.{in_row}
use Rattle.record_source.proofs.Steps.{prefixed}
use Rattle.record_source.proofs.fields.row.Given as goal

abbrev pub invariant-loop-slot : goal.invariant-loop-slot
invariant-loop-slot g l = in_row g.F.Field.rule (length l.fn.out) l.fn.rest ≡ prefixed (take l.slot-index l.out) (in_row g.F.Field.rule (length l.fn.out - l.slot-index) l.rest)
