use Rattle.std.proofs.Common.{◌≡◌, ◌++◌, length, string_bytes}
use Rattle.source_text.specs.Lists.{listing}
use Rattle.source_text.proofs.list.list.Given as goal

abbrev pub invariant-loop-head : goal.invariant-loop-head
invariant-loop-head g l = record {
  listed : string_bytes l.out ++ listing (g.S.Source.items l.source) (g.S.Source.ending l.source) ≡ string_bytes l.initial.out ++ listing (g.S.Source.items l.initial.source) (g.S.Source.ending l.initial.source);
  ending : g.S.Source.ending l.source ≡ g.S.Source.ending l.initial.source;
  literals : length l.body.literals ≡ 64;
  numbers : length l.body.numbers ≡ 256;
}

abbrev pub decreases-loop-head : goal.decreases-loop-head
decreases-loop-head g l = length (g.S.Source.items l.source)
