-- One field more.
use Rattle.std.proofs.Common.{◌<◌, ◌≤◌, length, arith}
use Rattle.record_source.specs.Fields.{in_row}
use Rattle.record_source.proofs.Steps.{row_more}
use Rattle.record_source.proofs.fields.row.Goals as goal

pub loop-slot-preserved : goal.loop-slot-preserved
loop-slot-preserved g c =
    let h : c.loop-slot.slot-index < length c.args.out.now = omega arith in
    let s : length c.args.out.now ≤ length c.loop-slot.out = omega (arith, c.loop-slot.auto.out) in
    row_more g.F.Field.rule (length c.args.out.now) c.loop-slot.slot-index c.loop-slot.rest.now c.loop-slot.out (in_row g.F.Field.rule (length c.args.out.now) c.args.rest.now) h c.in_ok-slot.field-0-0 c.in_ok-slot.field-0-1.now s c.in_ok-slot.ensures c.loop-slot.invariant
