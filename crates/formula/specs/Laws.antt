-- Laws over the reading of formulas: what stands above its definition. Assumes nothing.
use Rattle.std.specs.Prelude.{◌≡◌, ℕ, true, ◌⊎◌, List, [], ◌∷◌, ◌++◌, map, length, ℤ, codes, decimal}
use Rattle.std.specs.List.{flat_map}
use Rattle.std.specs.Fmt.{signed_decimal}
use Rattle.text.specs.Written.{spaced}
use Rattle.formula.specs.Clauses.{Clause, Assignment, holds, satisfies, FormulaOf}
use Rattle.formula.specs.Reading.{reading}
use Rattle.formula.specs.Reading.Reading.{formula}

-- a clause as a line: its literals and 0, with single spaces
abbrev pub clause_text : Clause → List ℕ
clause_text c = spaced (map signed_decimal c ++ decimal 0 ∷ []) ++ 10 ∷ []

-- a formula written in the plain way: the header, then a line for each clause
abbrev pub plain_text : ℕ → List Clause → List ℕ
plain_text v cs = spaced (codes "p" ∷ codes "cnf" ∷ decimal v ∷ decimal (length cs) ∷ []) ++ 10 ∷ flat_map clause_text cs

-- what a list has
abbrev pub In : {X : Type 0} → X → List X → Type 0
In x [] = ⊥
In x (y ∷ ys) = (x ≡ y) ⊎ In x ys

pub record Laws : Type 0 where
  -- a formula within the limits, written in the plain way, reads as itself
  pub plain : (v : ℕ) (cs : List Clause) → FormulaOf v cs → reading (plain_text v cs) ≡ formula v cs
  -- and whatever reads as a formula is within the limits
  pub limits : (bytes : List ℕ) (v : ℕ) (cs : List Clause) → reading bytes ≡ formula v cs → FormulaOf v cs
  -- an assignment that satisfies a formula makes a literal of each clause true, and one that does so satisfies it
  pub literal : (a : Assignment) (cs : List Clause) → satisfies a cs ≡ true → (c : Clause) → In c cs → (l : ℤ) × In l c × (holds a l ≡ true)
  pub satisfied : (a : Assignment) (cs : List Clause) → ((c : Clause) → In c cs → (l : ℤ) × In l c × (holds a l ≡ true)) → satisfies a cs ≡ true
