-- The clauses that an iteration has left. Assumes nothing.
use Rattle.std.specs.Prelude.{List, map}
use Rattle.formula.specs.declared.formula.iter.Iter.{Iter}
use Rattle.formula.specs.Clauses.{Clause}
use Rattle.formula.specs.Spans.{part}

abbrev pub clauses_left : Iter → List Clause
clauses_left i = map (λ s. part s i.literals.now) i.spans.now
