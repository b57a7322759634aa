-- The tables hold the clauses met so far.
use Rattle.std.proofs.Common.{length}
use Rattle.formula.proofs.FillSteps.{Fills}
use Rattle.formula.proofs.formula.Formula.fill.Given as goal

abbrev pub invariant-loop-clause : goal.invariant-loop-clause
invariant-loop-clause l = Fills l.found l.clauses l.fn.self l.self

abbrev pub decreases-loop-clause : goal.decreases-loop-clause
decreases-loop-clause l = length l.clauses.rest.now
