-- A formula in words. Assumes nothing.
use Rattle.std.specs.Prelude.{ℕ, List, [], ◌∷◌, ◌++◌, length, codes, decimal}
use Rattle.std.specs.List.{flat_map}
use Rattle.formula.specs.Clauses.{Clause}
use Rattle.formula.specs.Laws.{clause_text}

-- each clause on a line of its own
abbrev pub clause_texts : List Clause → List ℕ
clause_texts cs = flat_map clause_text cs

-- the line of counts
abbrev pub summary : ℕ → ℕ → List ℕ
summary v o = codes "formula variables=" ++ (decimal v ++ (codes " clauses=" ++ (decimal o ++ (10 ∷ []))))

-- that line, then the clauses
abbrev pub description : ℕ → List Clause → List ℕ
description v cs = summary v (length cs) ++ clause_texts cs
