-- What is written of a list so far.
use Rattle.std.proofs.Common.{take}
use Rattle.std.specs.Fmt.{HasWritten, IsPlainFormatter}
use Rattle.plain_text.specs.Texts.{spaced}
use Rattle.plain_text.proofs.numbers.SpacedDisplay.fmt.Given as goal

abbrev pub invariant-loop-number : goal.invariant-loop-number
invariant-loop-number g l =
    IsPlainFormatter l.initial.f → HasWritten g.W.Write.write_str_gives l.initial.f (spaced g.T.Decimal.digits (take l.number-index l.number-items)) l.f
