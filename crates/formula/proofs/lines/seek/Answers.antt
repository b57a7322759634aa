-- Each line that says nothing is passed over, and the next that does is the row.
use Rattle.std.proofs.Common.{◌∙◌, arith}
use Rattle.formula.proofs.LineRows.{passed, behind_shorter, stopped}
use Rattle.formula.proofs.lines.seek.Goals as goal

pub returns-in_default : goal.returns-in_default
returns-in_default c =
    let rest = c.loop-rest.rest.now in
    let some = c.loop-rest-test.ensures in
    record {
      rows = λ n. c.loop-rest.invariant.rows n ∙ stopped rest some c.in_default.ensures n c.loop-rest.lines;
      first = omega arith;
      few = omega (arith, behind_shorter rest some, c.loop-rest.invariant.low);
    }

pub loop-rest-preserved : goal.loop-rest-preserved
loop-rest-preserved c =
    let p = passed c.loop-rest.rest.now c.loop-rest-test.ensures c.in-Some.behind.now c.in-Some.ensures in
    record { rows = λ n. c.loop-rest.invariant.rows n ∙ p.1 n c.loop-rest.lines; low = omega (arith, p.0, c.loop-rest.invariant.low) }

pub loop-rest-smaller : goal.loop-rest-smaller
loop-rest-smaller c = (passed c.loop-rest.rest.now c.loop-rest-test.ensures c.in-Some.behind.now c.in-Some.ensures).0
