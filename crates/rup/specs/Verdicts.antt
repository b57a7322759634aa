-- The check of a line, and what is answered of a line that is offered. Assumes nothing.
use Rattle.std.specs.Prelude.{ℕ, Bool, true, false, cond, ◌||◌, List, [], ◌∷◌, Ok, Err, Result, ◌==◌}
use Rattle.answers.specs.declared.fault.Fault.TheVariants.{AssignmentBytes, NoSpace, NotNext, LineVariableAbove, LineVariableTwice}
use Rattle.answers.specs.declared.refusal.Refusal.{Refusal}
use Rattle.formula.specs.Clauses.{Clause, has_variable}
use Rattle.lines.specs.Held.{Line, outside}
use Rattle.rup.specs.Bytes.{clean}
use Rattle.rup.specs.Propagation.{Known, Verdict, fails, gather, through}

-- some variable stands twice, in either sign
abbrev pub twice : Clause → Bool
twice [] = false
twice (l ∷ ls) = has_variable l ls || twice ls

-- over v variables: 23, 24, 26, then 27 or 28
abbrev pub verdict : ℕ → Known → Line → Verdict
verdict v K l = cond (outside v l.literals) (fails LineVariableAbove 0) (cond (twice l.literals) (fails LineVariableTwice 0) (through l.literals (gather K 0 l.hints)))

-- 22 before them: whether the line has the number that is next
abbrev pub in_turn : ℕ → Line → Verdict → Verdict
in_turn next l w = cond (l.number == next) w (fails NotNext 0)

abbrev pub verdict_next : ℕ → Known → ℕ → Line → Verdict
verdict_next v K next l = in_turn next l (verdict v K l)

-- 3 before all
abbrev pub on_clean : ℕ → List ℕ → Verdict → Verdict
on_clean v bytes w = cond (clean v bytes) w (fails AssignmentBytes 0)

-- of a line of a solver, at a place, where there is space or not: 4 comes last
abbrev pub answered : ℕ → ℕ → Bool → Verdict → Result ℕ Refusal
answered solver place true (Ok h) = Ok h
answered solver place false (Ok h) = Err (record { fault = NoSpace; solver = solver; place = place; hint = 0 })
answered solver place space (Err e) = Err (record { fault = e.fault; solver = solver; place = place; hint = e.hint })
