-- What the literals read so far leave.
use Rattle.std.proofs.Common.{◌≡◌, ◌≤◌, length, take}
use Rattle.text.specs.Fronts.{tokens_left, behind_line}
use Rattle.formula.specs.Reading.{clause_from, clause_of}
use Rattle.formula.proofs.clause.read_clause.Given as goal

abbrev pub invariant-loop-l : goal.invariant-loop-l
invariant-loop-l l = record {
  is : clause_from l.variables l.surplus (take l.n l.out) (tokens_left l.rest) ≡ clause_of l.variables l.surplus (tokens_left l.text);
  line : behind_line l.rest ≡ behind_line l.text;
  few : l.n ≤ 64;
  long : length l.out ≡ 64;
}

abbrev pub decreases-loop-l : goal.decreases-loop-l
decreases-loop-l l = length l.rest
