-- What the loop over a line's bytes keeps.
use Rattle.std.proofs.Common.{◌≡◌, ◌≤◌, length}
use Rattle.text.specs.Fronts.{behind_line, fed}
use Rattle.text.proofs.scanner.skip_line.Given as goal

abbrev pub invariant-loop-rest : goal.invariant-loop-rest
invariant-loop-rest l = (behind_line l.rest ≡ behind_line l.text) × (fed l.rest ≡ fed l.text) × (length l.rest ≤ length l.text)

abbrev pub decreases-loop-rest : goal.decreases-loop-rest
decreases-loop-rest l = length l.rest
