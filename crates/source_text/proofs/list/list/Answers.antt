use Rattle.std.proofs.Common.{◌++◌, string_bytes, ap, ◌∙◌}
use Rattle.source.specs.Items.{Ending, behind_first}
use Rattle.source.specs.Looks.{wide}
use Rattle.source_text.specs.Lists.{listing}
use Rattle.source_text.proofs.ListSteps.{wide_enough, item_listed}
use Rattle.source_text.proofs.list.list.Goals as goal

pub loop-head-preserved : goal.loop-head-preserved
loop-head-preserved g c =
    let i = c.loop-head.invariant in
    let f = c.in-Ok.ensures in
    let b = c.loop-head.body in
    let xs = g.S.Source.items c.loop-head.source in
    let e = g.S.Source.ending c.loop-head.source in
    let after = string_bytes c.push_item.new.out in
    let listed = item_listed (wide b.literals b.numbers) (wide_enough b.literals b.numbers i.literals i.numbers) xs e c.in-Ok.head (record { literals = c.take_first.new.literals; numbers = c.take_first.new.hints }) b.literals b.numbers (string_bytes c.loop-head.out) after _
    f.answer f.literals f.hints c.in_ok-push_item-in-Ok.ensures i.listed in
    record {
      listed = ap (λ ys. after ++ listing ys (g.S.Source.ending c.take_first.new.source)) f.after ∙ ap (λ (y : Ending). after ++ listing (behind_first xs) y) f.ending ∙ listed;
      ending = f.ending ∙ i.ending;
      literals = c.take_first.auto.literals ∙ i.literals;
      numbers = c.take_first.auto.hints ∙ i.numbers;
    }
