-- What each fault means, in words. Assumes nothing.
use Rattle.std.specs.Prelude.{ℕ, List, codes}
use Rattle.answers.specs.declared.fault.Fault.{Fault}
use Rattle.answers.specs.declared.fault.Fault.TheVariants.{NoSuchSolver, SolverCount, AssignmentBytes, NoSpace, WrongStage, NoEmptyClause, ShortBuffer, ShortOutput, Header, Misshapen, VariableAbove, VariableTwice, ManyLiterals, ClauseCount, NoItem, MisshapenLine, NotNext, LineVariableAbove, LineVariableTwice, CountLimit, UnknownHint, HintNotUnit, NoConflict, Record, NotAlive}

abbrev pub meaning_of : Fault → List ℕ
meaning_of NoSuchSolver = codes "there is no such solver"
meaning_of SolverCount = codes "there must be 1 to 16 solvers"
meaning_of AssignmentBytes = codes "the assignment bytes are too few or not zero"
meaning_of NoSpace = codes "a table is too short"
meaning_of WrongStage = codes "the join stands at another stage"
meaning_of NoEmptyClause = codes "no empty clause was taken"
meaning_of ShortBuffer = codes "a buffer for literals or hints is too short"
meaning_of ShortOutput = codes "the output is too short"
meaning_of Header = codes "the header 'p cnf V o' is absent, misshapen or beyond the limits"
meaning_of Misshapen = codes "a token or line of the formula is misshapen"
meaning_of VariableAbove = codes "a variable is above the header's V"
meaning_of VariableTwice = codes "a variable stands twice in a clause"
meaning_of ManyLiterals = codes "a clause has more than 64 literals"
meaning_of ClauseCount = codes "the number of clauses is not the header's"
meaning_of NoItem = codes "no item is left"
meaning_of MisshapenLine = codes "a line of the partial proof is misshapen"
meaning_of NotNext = codes "the line's number is not the solver's next"
meaning_of LineVariableAbove = codes "a variable of the line is above the formula's"
meaning_of LineVariableTwice = codes "a variable stands twice in the line"
meaning_of CountLimit = codes "a count limit is passed"
meaning_of UnknownHint = codes "a hint names no clause and no line taken"
meaning_of HintNotUnit = codes "the clause of a hint has two literals or more that are not false"
meaning_of NoConflict = codes "the hints end without a conflict"
meaning_of Record = codes "a record is misshapen, cut or missing"
meaning_of NotAlive = codes "a deletion names a line that is not alive"
