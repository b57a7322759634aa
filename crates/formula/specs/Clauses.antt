-- Literals, clauses and formulas, and what satisfies them. Assumes nothing.
use Rattle.std.specs.Prelude.{◌≡◌, ℕ, zero, suc, ◌≤◌, Bool, true, false, not, ◌&&◌, ◌||◌, List, [], ◌∷◌, length, ℤ, pos, negsuc, ◌==◌, unsigned_abs}
use Rattle.std.specs.List.{flat_map, AllByRecursion}

-- a literal is a variable v, or −v for its opposite; a clause is the list of its literals
abbrev pub Clause : Type 0
Clause = List ℤ

-- the literals of clauses, one clause behind the other
abbrev pub literals_of : List Clause → List ℤ
literals_of cs = flat_map (λ c. c) cs

-- an assignment says of each variable whether it is true
abbrev pub Assignment : Type 0
Assignment = ℕ → Bool

-- v is true where its variable is, −v where it is not; 0 is no literal, and never true
abbrev pub holds : Assignment → ℤ → Bool
holds a (pos zero) = false
holds a (pos (suc v)) = a (suc v)
holds a (negsuc v) = not (a (suc v))

-- a clause is satisfied by one true literal
abbrev pub satisfies_clause : Assignment → Clause → Bool
satisfies_clause a [] = false
satisfies_clause a (l ∷ ls) = holds a l || satisfies_clause a ls

-- an assignment satisfies a formula when every clause has a true literal
abbrev pub satisfies : Assignment → List Clause → Bool
satisfies a [] = true
satisfies a (c ∷ cs) = satisfies_clause a c && satisfies a cs

-- whether the variable of l stands among ls, in either sign
abbrev pub has_variable : ℤ → Clause → Bool
has_variable l [] = false
has_variable l (k ∷ ks) = unsigned_abs k == unsigned_abs l || has_variable l ks

-- no variable stands twice
abbrev pub Once : Clause → Type 0
Once [] = Unit {0}
Once (l ∷ ls) = (has_variable l ls ≡ false) × Once ls

-- a literal of a variable from 1 to v
abbrev pub LiteralOf : ℕ → ℤ → Type 0
LiteralOf v l = (1 ≤ unsigned_abs l) × (unsigned_abs l ≤ v)

-- a clause of a formula over v variables
pub record ClauseOf (v : ℕ) (c : Clause) : Type 0 where
  pub literals : AllByRecursion (LiteralOf v) c
  pub once : Once c
  pub few : length c ≤ 64

-- a formula within the limits
pub record FormulaOf (v : ℕ) (cs : List Clause) : Type 0 where
  pub some : 1 ≤ v
  pub low : v ≤ 4096
  pub few : length cs ≤ 65536
  pub clauses : AllByRecursion (ClauseOf v) cs
