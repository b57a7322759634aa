-- The blank lines passed leave the reading as it is.
use Rattle.std.proofs.Common.{◌≡◌, ◌+◌, ◌≤◌, length}
use Rattle.text.specs.Words.{lines_of}
use Rattle.text_source.specs.Reading.{unfed, read_lines}
use Rattle.text_source.specs.Lefts.{left}
use Rattle.text_source.specs.Lines.{StandsIn}
use Rattle.text_source.proofs.cursor.TextSource.seek.Given as goal

abbrev pub invariant-loop-behind : goal.invariant-loop-behind
invariant-loop-behind l = record {
  is : left l.self.bytes.now l.self.at l.self.lines ≡ read_lines (unfed l.self.bytes.now) l.lines (lines_of l.rest);
  stands : StandsIn l.rest l.self.bytes.now;
  low : l.lines + length l.rest ≤ length l.self.bytes.now;
}

abbrev pub decreases-loop-behind : goal.decreases-loop-behind
decreases-loop-behind l = length l.rest
