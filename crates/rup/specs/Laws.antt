-- Laws over the check of a line. Assumes nothing.
use Rattle.std.specs.Prelude.{◌≡◌, ℕ, true, ◌⊎◌, List, None, Ok, Err}
use Rattle.answers.specs.Numbers.{number_of}
use Rattle.formula.specs.Clauses.{Clause, Assignment, satisfies_clause, satisfies}
use Rattle.formula.specs.Laws.{In}
use Rattle.lines.specs.Held.{Line, clause_named}
use Rattle.rup.specs.Propagation.{Known, Verdict}
use Rattle.rup.specs.Verdicts.{verdict}

-- an assignment satisfies lines when each has a true literal
abbrev pub Satisfies : Assignment → List Line → Type 0
Satisfies a ls = (l : Line) → In l ls → satisfies_clause a l.literals ≡ true

-- any verdict but 26
abbrev pub HintsKnown : Verdict → Type 0
HintsKnown (Ok h) = Unit {0}
HintsKnown (Err e) = number_of e.fault ≡ 26 → ⊥

pub record Laws : Type 0 where
  -- a line that follows is satisfied by every assignment that satisfies the formula and the lines
  pub sound : (v : ℕ) (cs : List Clause) (ls : List Line) (l : Line) (h : ℕ) → verdict v (clause_named cs ls) l ≡ Ok h → (a : Assignment) → satisfies a cs ≡ true → Satisfies a ls → satisfies_clause a l.literals ≡ true
  -- a verdict depends only on the clauses that the hints name
  pub local : (v : ℕ) (K J : Known) (l : Line) → ((h : ℕ) → In h l.hints → J h ≡ K h) → verdict v J l ≡ verdict v K l
  -- so lines of numbers that no hint named before turn only a 26
  pub more : (v : ℕ) (K J : Known) (l : Line) → ((h : ℕ) → In h l.hints → (K h ≡ None) ⊎ (J h ≡ K h)) → HintsKnown (verdict v K l) → verdict v J l ≡ verdict v K l
