-- What a formula's tables stand for. Assumes nothing.
use Rattle.std.specs.Prelude.{ℕ, zero, suc, List, map, ℤ, None, Option}
use Rattle.std.specs.List.{slice_get}
use Rattle.tables.specs.Filled.{filled, slots_of}
use Rattle.formula.specs.declared.formula.Formula.{Formula}
use Rattle.formula.specs.declared.span.Span.{Span}
use Rattle.formula.specs.Clauses.{Clause}
use Rattle.formula.specs.Spans.{part}

abbrev pub variables_of : Formula → ℕ
variables_of f = f.variables

abbrev pub clauses_of : Formula → List Clause
clauses_of f = map (λ s. part s (filled f.literals)) (filled f.spans)

-- every slot of the two tables, those behind the filled part too
abbrev pub literal_slots : Formula → List ℤ
literal_slots f = slots_of f.literals

abbrev pub span_slots : Formula → List Span
span_slots f = slots_of f.spans

-- clauses are numbered from 1 on
abbrev pub numbered : List Clause → ℕ → Option Clause
numbered cs zero = None
numbered cs (suc k) = slice_get cs k
