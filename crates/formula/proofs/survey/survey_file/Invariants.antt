-- What the clauses read so far come to.
use Rattle.std.proofs.Common.{length}
use Rattle.formula.proofs.SurveySteps.{Counts}
use Rattle.formula.proofs.survey.survey_file.Given as goal

abbrev pub invariant-loop-clause : goal.invariant-loop-clause
invariant-loop-clause l = Counts l.clauses l.left l.literals

abbrev pub decreases-loop-clause : goal.decreases-loop-clause
decreases-loop-clause l = length l.left.rest.now
