use Rattle.std.proofs.Common.{arith, rules}
use Rattle.std.proofs.lemmas.Grind.{common_steps}
use Rattle.rup.proofs.propagation.propagate.Goals as goal

pub loop-l-preserved : goal.loop-l-preserved
loop-l-preserved c = (search rules, grind (arith, common_steps))
