-- The number of each fault. Assumes nothing.
use Rattle.std.specs.Prelude.{ℕ}
use Rattle.answers.specs.declared.fault.Fault.{Fault}
use Rattle.answers.specs.declared.fault.Fault.TheVariants.{NoSuchSolver, SolverCount, AssignmentBytes, NoSpace, WrongStage, NoEmptyClause, ShortBuffer, ShortOutput, Header, Misshapen, VariableAbove, VariableTwice, ManyLiterals, ClauseCount, NoItem, MisshapenLine, NotNext, LineVariableAbove, LineVariableTwice, CountLimit, UnknownHint, HintNotUnit, NoConflict, Record, NotAlive}

abbrev pub number_of : Fault → ℕ
number_of NoSuchSolver = 1
number_of SolverCount = 2
number_of AssignmentBytes = 3
number_of NoSpace = 4
number_of WrongStage = 5
number_of NoEmptyClause = 6
number_of ShortBuffer = 7
number_of ShortOutput = 8
number_of Header = 10
number_of Misshapen = 11
number_of VariableAbove = 12
number_of VariableTwice = 13
number_of ManyLiterals = 14
number_of ClauseCount = 15
number_of NoItem = 20
number_of MisshapenLine = 21
number_of NotNext = 22
number_of LineVariableAbove = 23
number_of LineVariableTwice = 24
number_of CountLimit = 25
number_of UnknownHint = 26
number_of HintNotUnit = 27
number_of NoConflict = 28
number_of Record = 29
number_of NotAlive = 30
