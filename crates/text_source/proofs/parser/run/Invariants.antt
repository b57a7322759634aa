-- The loop keeps what is read so far in front of what the rest of the run comes to.
use Rattle.std.proofs.Common.{◌≡◌, ◌-◌, ◌≤◌, length, take}
use Rattle.text_source.specs.Parse.{collect}
use Rattle.text_source.specs.Lines.{tokens_from, line_behind}
use Rattle.text_source.proofs.Collects.{prefixed}
use Rattle.text_source.proofs.parser.run.Given as goal

abbrev pub invariant-loop-token : goal.invariant-loop-token
invariant-loop-token g l = record {
  is : collect g.T.Kept.keep (length l.out) (tokens_from l.first) ≡ prefixed (take l.n l.out) (collect g.T.Kept.keep (length l.out - l.n) (tokens_from l.token));
  few : l.n ≤ length l.out;
  line : line_behind l.token ≡ line_behind l.first;
}

abbrev pub decreases-loop-token : goal.decreases-loop-token
decreases-loop-token g l = length (tokens_from l.token)
