-- What reading a formula file answers, and what the tables hold behind it. Assumes nothing.
use Rattle.std.specs.Prelude.{◌≡◌, ℕ, List, [], ◌∷◌, ◌++◌, length, Ok, Err, Result}
use Rattle.answers.specs.declared.refusal.Refusal.{Refusal}
use Rattle.answers.specs.Refusals.{refusal_at}
use Rattle.tables.specs.Filled.{filled, capacity_of, over, SameLender}
use Rattle.formula.specs.declared.formula.Formula.{Formula}
use Rattle.formula.specs.Clauses.{Clause, literals_of}
use Rattle.formula.specs.Spans.{span_at, spans_from}
use Rattle.formula.specs.Formulas.{variables_of, clauses_of, literal_slots, span_slots}
use Rattle.formula.specs.Reading.{Reading, formula, refused, fitted, reading}

-- h holds the clauses cs over v variables, written over the fronts of the tables of g
pub record Holds (g h : Formula) (v : ℕ) (cs : List Clause) : Type 0 where
  pub variables : variables_of h ≡ v
  pub clauses : clauses_of h ≡ cs
  pub literals : filled h.literals ≡ literals_of cs
  pub spans : filled h.spans ≡ spans_from 0 cs
  pub slots_of_literals : literal_slots h ≡ over (literal_slots g) 0 (literals_of cs)
  pub slots_of_spans : span_slots h ≡ over (span_slots g) 0 (spans_from 0 cs)
  pub literal_lender : SameLender g.literals h.literals
  pub span_lender : SameLender g.spans h.spans

-- h is g with the clause c behind the others
pub record Added (g h : Formula) (c : Clause) : Type 0 where
  pub variables : variables_of h ≡ variables_of g
  pub literals : filled h.literals ≡ filled g.literals ++ c
  pub spans : filled h.spans ≡ filled g.spans ++ (span_at (length (filled g.literals)) c ∷ [])
  pub slots_of_literals : literal_slots h ≡ over (literal_slots g) (length (filled g.literals)) c
  pub slots_of_spans : span_slots h ≡ over (span_slots g) (length (filled g.spans)) (span_at (length (filled g.literals)) c ∷ [])
  pub literal_lender : SameLender g.literals h.literals
  pub span_lender : SameLender g.spans h.spans

-- what the bytes say, read into the tables of f
abbrev pub read_into : Formula → List ℕ → Reading
read_into f bytes = fitted (capacity_of f.literals) (capacity_of f.spans) (reading bytes)

abbrev pub answer_of : Reading → Result (Unit {0}) Refusal
answer_of (formula v cs) = Ok tt
answer_of (refused f line) = Err (refusal_at f line)

-- a refusal leaves the formula and every slot as they were
abbrev pub After : Reading → Formula → Formula → Type 0
After (formula v cs) before after = Holds before after v cs
After (refused f line) before after = after ≡ before
