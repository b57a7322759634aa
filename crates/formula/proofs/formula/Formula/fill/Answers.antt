-- One clause more, for which there is space.
use Rattle.formula.proofs.FillSteps.{met_space, met_held}
use Rattle.formula.proofs.formula.Formula.fill.Goals as goal

pub add-requires-clause-space : goal.add-requires-clause-space
add-requires-clause-space c =
    let s = met_space c.args.found c.loop-clause.clauses c.next.new.self c.args.self.now c.loop-clause.self c.in-Ok-Some.clause.now c.requires.found c.requires.space.0 c.requires.space.1 c.loop-clause.invariant (rw c.in-Ok-Some.field-0-is at c.in-Ok-Some.ensures) in
    (s.0, s.1)

pub loop-clause-preserved : goal.loop-clause-preserved
loop-clause-preserved c =
    met_held c.args.found c.loop-clause.clauses c.next.new.self c.args.self.now c.loop-clause.self c.in-Ok-Some.clause.now c.requires.found c.requires.space.0 c.requires.space.1 c.loop-clause.invariant (rw c.in-Ok-Some.field-0-is at c.in-Ok-Some.ensures)
    c.add.new.self c.add.ensures
