use Rattle.std.proofs.Common.{◌≡◌, length}
use Rattle.rup.specs.Verdicts.{twice}
use Rattle.rup.proofs.literal.is_twice.Given as goal

abbrev pub invariant-loop-rest : goal.invariant-loop-rest
invariant-loop-rest l = twice l.rest ≡ twice l.literals

abbrev pub decreases-loop-rest : goal.decreases-loop-rest
decreases-loop-rest l = length l.rest
