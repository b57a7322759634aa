-- What the loop over spaces keeps.
use Rattle.std.proofs.Common.{◌≡◌, length}
use Rattle.text.specs.Fronts.{unblanked}
use Rattle.text.proofs.scanner.skip_fours.Given as goal

abbrev pub invariant-loop-rest : goal.invariant-loop-rest
invariant-loop-rest l = unblanked l.rest ≡ unblanked l.text

abbrev pub decreases-loop-rest : goal.decreases-loop-rest
decreases-loop-rest l = length l.rest
