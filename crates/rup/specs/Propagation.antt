-- Unit propagation through the clauses that hints name. Assumes nothing.
use Rattle.std.specs.Prelude.{ℕ, ◌+◌, Bool, cond, List, [], ◌∷◌, ℤ, neg_ℤ, Some, None, Ok, Err, Option, Result}
use Rattle.std.specs.List.{list_any}
use Rattle.std.specs.Ordering.{int_eq}
use Rattle.answers.specs.declared.fault.Fault.{Fault}
use Rattle.answers.specs.declared.fault.Fault.TheVariants.{UnknownHint, HintNotUnit, NoConflict}
use Rattle.formula.specs.Clauses.{Clause}
use Rattle.rup.specs.declared.failure.Failure.{Failure}

-- what a check says of a line: that it follows, by the position, from 1, of the hint at which the
-- conflict came, or why it does not
abbrev pub Verdict : Type 0
Verdict = Result ℕ Failure

abbrev pub fails : Fault → ℕ → Verdict
fails f p = Err (record { fault = f; hint = p })

-- which clause a number names, if any
abbrev pub Known : Type 0
Known = ℕ → Option Clause

-- the clauses that hints name, or the position, from 1, of the first hint that names none
abbrev pub Gathered : Type 0
Gathered = Result (List Clause) ℕ

abbrev pub before : Clause → Gathered → Gathered
before c (Ok cs) = Ok (c ∷ cs)
before c (Err p) = Err p

abbrev pub gathered : Option Clause → ℕ → Gathered → Gathered
gathered (Some c) p rest = before c rest
gathered None p rest = Err p

-- behind p hints that name a clause
abbrev pub gather : Known → ℕ → List ℕ → Gathered
gather K p [] = Ok []
gather K p (h ∷ hs) = gathered (K h) (p + 1) (gather K (p + 1) hs)

abbrev pub among : ℤ → List ℤ → Bool
among l ks = list_any (int_eq l) ks

-- what is left of a clause when some literals are false
abbrev pub left : List ℤ → Clause → Clause
left falses [] = []
left falses (l ∷ ls) = cond (among l falses) (left falses ls) (l ∷ left falses ls)

-- by what is left of a hint's clause: nothing, one literal, or more
abbrev pub by_left : {R : Type 0} → Clause → R → (ℤ → R) → R → R
by_left [] conflict unit more = conflict
by_left (l ∷ []) conflict unit more = unit l
by_left (l ∷ k ∷ ks) conflict unit more = more

-- through the clauses of hints in turn, behind p of them: a clause of which nothing is left is a
-- conflict, one literal left makes its opposite false, and more than one literal left fails
abbrev pub walk : List ℤ → ℕ → List Clause → Verdict
walk falses p [] = fails NoConflict p
walk falses p (c ∷ cs) = by_left (left falses c) (Ok (p + 1)) (λ l. walk (neg_ℤ l ∷ falses) (p + 1) cs) (fails HintNotUnit (p + 1))

-- from the literals of a line made false
abbrev pub through : Clause → Gathered → Verdict
through ls (Ok cs) = walk ls 0 cs
through ls (Err p) = fails UnknownHint p
