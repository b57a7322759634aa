-- What the loop over digits keeps: the number, and where its word ends.
use Rattle.std.proofs.Common.{◌≡◌, ◌+◌, ◌*◌, ◌≤◌, length}
use Rattle.text.specs.Words.{limit}
use Rattle.text.specs.Fronts.{number_from, behind_word}
use Rattle.text.proofs.scanner.digits.Given as goal

abbrev pub invariant-loop-rest : goal.invariant-loop-rest
invariant-loop-rest l = (number_from l.size l.rest ≡ number_from l.first l.text) × (behind_word l.rest ≡ behind_word l.text) × (l.size ≤ 10 * limit + 9)

abbrev pub decreases-loop-rest : goal.decreases-loop-rest
decreases-loop-rest l = length l.rest
