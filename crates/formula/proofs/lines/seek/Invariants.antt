-- What the lines passed over leave.
use Rattle.std.proofs.Common.{◌≡◌, ℕ, ◌+◌, ◌≤◌, length}
use Rattle.formula.specs.Cursors.{rows_at}
use Rattle.formula.proofs.lines.seek.Given as goal

abbrev pub invariant-loop-rest : goal.invariant-loop-rest
invariant-loop-rest l = record { rows : (n : ℕ) → rows_at l.text n ≡ rows_at l.rest (n + l.lines); low : l.lines + length l.rest ≤ length l.text }

abbrev pub decreases-loop-rest : goal.decreases-loop-rest
decreases-loop-rest l = length l.rest
