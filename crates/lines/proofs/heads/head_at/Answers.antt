use Rattle.std.proofs.Common.{arith}
use Rattle.std.proofs.lemmas.Grind.{common_steps}
use Rattle.tables.specs.Filled.{slots_of}
use Rattle.lines.proofs.Inserts.{head_some, head_none}
use Rattle.lines.proofs.heads.head_at.Goals as goal

pub returns : goal.returns
returns c = grind (arith, common_steps, head_some (slots_of c.args.entries.now) c.args.i, head_none (slots_of c.args.entries.now) c.args.i)
