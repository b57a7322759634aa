-- What a walk has seen of a clause. Assumes nothing.
use Rattle.std.proofs.Common.{ℕ, List, [], ◌∷◌, ℤ, Some, None, Option}
use Rattle.formula.specs.Clauses.{LiteralOf}

-- the literal seen so far, if there is one
abbrev pub seen : Option ℤ → List ℤ
seen None = []
seen (Some l) = l ∷ []

abbrev pub SeenOf : ℕ → Option ℤ → Type 0
SeenOf v None = Unit {0}
SeenOf v (Some l) = LiteralOf v l
