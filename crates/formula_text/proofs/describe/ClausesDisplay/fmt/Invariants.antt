-- What is written of the clauses, and what is to come, are the whole.
use Rattle.std.proofs.Common.{◌≡◌, ℕ, List, ◌++◌}
use Rattle.std.specs.Fmt.{HasWritten, IsPlainFormatter}
use Rattle.formula.specs.Formulas.{clauses_of}
use Rattle.formula.specs.Iters.{clauses_left}
use Rattle.formula_text.specs.Texts.{clause_texts}
use Rattle.formula_text.proofs.describe.ClausesDisplay.fmt.Given as goal

abbrev pub invariant-loop-clause : goal.invariant-loop-clause
invariant-loop-clause g l =
    IsPlainFormatter l.initial.f → (text : List ℕ) × HasWritten g.W.Write.write_str_gives l.initial.f text l.f × (text ++ clause_texts (clauses_left l.clause-iterator) ≡ clause_texts (clauses_of l.self.0.now))
