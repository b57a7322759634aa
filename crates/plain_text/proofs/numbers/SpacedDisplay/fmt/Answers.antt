-- One number more.
use Rattle.plain_text.proofs.Spaces.{written_more}
use Rattle.plain_text.proofs.numbers.SpacedDisplay.fmt.Goals as goal

pub loop-number-preserved : goal.loop-number-preserved
loop-number-preserved g c p =
    written_more g.W.Write.write_str_gives g.T.Decimal.digits c.args.f.now c.loop-number.f c.write.new.self c.args.self.now.0.now c.loop-number.number-index c.number-item.result _ c.loop-number-test.true c.number-item.is (g.met.T.Decimal.printed c.number-item.result)
    (c.loop-number.invariant p) c.in_ok-write.ensures.writes
