use Rattle.std.proofs.Common.{◌≡◌, ◌*◌, length, take}
use Rattle.lines.specs.Tables.{variables_in}
use Rattle.rup.specs.Bytes.{Shows}
use Rattle.rup.proofs.propagation.propagate.Given as goal

abbrev pub invariant-loop-l : goal.invariant-loop-l
invariant-loop-l l = (length l.guard.0.now ≡ 2 * variables_in l.lines) × Shows (variables_in l.lines) l.guard.0.now (take l.l-index l.line.literals.now)
