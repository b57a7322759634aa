-- A literal that is not admitted is the clause's fault.
use Rattle.std.proofs.Common.{◌≡◌, false, take, Some, Err, sym, ap, ◌∙◌, subst, w32, to_z, of_z, rules}
use Rattle.std.proofs.lemmas.Int.{to_z-of_z}
use Rattle.text.specs.Fronts.{tokens_left}
use Rattle.formula.specs.Reading.{is_zero, offence, clause_from}
use Rattle.formula.specs.Cursors.{ClauseAt}
use Rattle.formula.proofs.ClauseSteps.{nonzero, clause_offends, not_admitted}
use Rattle.formula.proofs.clause.read_clause.Goals as goal

pub returns-in_err-admit : goal.returns-in_err-admit
returns-in_err-admit c =
    let l = c.in-Number.l in
    let v = c.args.variables in
    let s = c.args.surplus in
    let ls = take c.loop-l.n c.loop-l.out in
    let f = c.in_err-admit.field-0.0 in
    let z : is_zero l ≡ false = nonzero l (λ q. c.if-l-eq0.false (ap (of_z w32) q)) in
    let e : to_z w32 (of_z w32 l) ≡ l = search (rules, to_z-of_z) in
    let o : offence v s ls l ≡ Some f = ap (offence v s ls) (sym e) ∙ not_admitted tt (offence v s ls (to_z w32 (of_z w32 l))) f c.in_err-admit.ensures in
    let r : c.from_residual.result ≡ Err f = search rules in
    subst (ClauseAt c.args.text.now v s) (sym r)
    (sym c.loop-l.invariant.is ∙ ap (clause_from v s ls) c.in-Number.ensures.tokens ∙ clause_offends v s ls l (tokens_left c.in-Number.behind.now) f z o)
