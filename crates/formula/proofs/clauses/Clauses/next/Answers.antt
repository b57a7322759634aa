-- A row that is a clause.
use Rattle.std.proofs.Common.{◌+◌, leb, [], ◌∷◌, ◌++◌, length, sym, refl, ap, ◌∙◌, arith}
use Rattle.text.specs.Fronts.{tokens_left, behind_line}
use Rattle.formula.specs.Reading.{read_clauses}
use Rattle.formula.specs.Cursors.{rows_at}
use Rattle.formula.proofs.Limits.{clause_within}
use Rattle.formula.proofs.SurveySteps.{one_due, one_read, clause_placed}
use Rattle.formula.proofs.clauses.Clauses.next.Goals as goal

pub invariant_of-self : goal.invariant_of-self
invariant_of-self c =
    let self = c.args.self.now in
    let h = self.header in
    let row = c.in-Some.row.now in
    let k = clause_placed row h.variables (leb h.clauses self.count) c.read_clause-read.result c.map_err.result _ (c.in_ok-clause.clause, c.in_ok-clause.rest) c.read_clause-read.ensures c.map_err.ensures.cases c.map_err.ensures.variant c.in_ok-clause.was in
    record {
      numbered = omega (arith, ap length k.1, c.in-Some.ensures.few, c.args.self.now.numbered);
      due = one_due h.variables h.clauses c.args.self.now.count (tokens_left row) c.in_ok-clause.clause.now k.0;
    }

pub returns : goal.returns
returns c =
    let self = c.args.self.now in
    let h = self.header in
    let row = c.in-Some.row.now in
    let k = clause_placed row h.variables (leb h.clauses self.count) c.read_clause-read.result c.map_err.result _ (c.in_ok-clause.clause, c.in_ok-clause.rest) c.read_clause-read.ensures c.map_err.ensures.cases c.map_err.ensures.variant c.in_ok-clause.was in
    let line = self.lines + c.in-Some.line in
    record {
      is = λ cs e.
          ap (read_clauses h.variables h.clauses cs) (c.in-Some.ensures.rows self.lines)
          ∙ one_read h.variables h.clauses self.count line cs c.in_ok-clause.clause.now (tokens_left row) (rows_at (behind_line row) line) e k.0
          ∙ ap (λ x. read_clauses h.variables h.clauses (cs ++ c.in_ok-clause.clause.now ∷ []) (rows_at x line)) (sym k.1);
      within = clause_within h.variables (leb h.clauses self.count) (tokens_left row) c.in_ok-clause.clause.now k.0;
      header = refl;
      count = refl;
      shorter = omega (arith, ap length k.1, c.in-Some.ensures.first, c.in-Some.ensures.few);
    }
