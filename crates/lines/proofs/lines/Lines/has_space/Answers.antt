use Rattle.std.proofs.Common.{arith}
use Rattle.std.proofs.lemmas.Grind.{common_steps}
use Rattle.tables.proofs.Fronts.{front_within}
use Rattle.lines.proofs.Counts.{space_left}
use Rattle.lines.proofs.lines.Lines.has_space.Goals as goal

pub returns-then-literals-space : goal.returns-then-literals-space
returns-then-literals-space c =
    let t = c.args.self.now in
    let e = front_within t.entries.len t.entries.slots.now in
    let l = front_within t.literals.len t.literals.slots.now in
    let h = front_within t.hints.len t.hints.slots.now in
    let s = space_left t c.args.literals c.args.hints in
    grind (arith, common_steps, c.if-space-gt0.branch)
