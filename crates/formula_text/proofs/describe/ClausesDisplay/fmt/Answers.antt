-- One clause more.
use Rattle.std.proofs.Common.{◌≡◌, ◌∷◌, ◌++◌, refl, ap, ◌∙◌, append_assoc, sym, rules}
use Rattle.std.proofs.Output.{has_written_append}
use Rattle.formula.specs.Iters.{clauses_left}
use Rattle.formula.specs.Laws.{clause_text}
use Rattle.formula_text.specs.Texts.{clause_texts}
use Rattle.formula_text.proofs.describe.ClausesDisplay.fmt.Goals as goal

pub loop-clause-preserved : goal.loop-clause-preserved
loop-clause-preserved g c p =
    let i = c.loop-clause.invariant p in
    let line = clause_text c.in-Some.clause.now in
    let left : clauses_left c.loop-clause.clause-iterator ≡ c.in-Some.clause.now ∷ clauses_left c.next.new.self = search rules in
    (i.0 ++ line, has_written_append _ _ _ _ _ _ i.1 (c.in_ok-write.ensures.writes i.1.plain refl), append_assoc i.0 line (clause_texts (clauses_left c.next.new.self)) ∙ ap (λ cs. i.0 ++ clause_texts cs) (sym left) ∙ i.2)
