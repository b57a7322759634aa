-- One number more.
use Rattle.std.proofs.Common.{◌≡◌, Some, sym, ap, ◌∙◌, arith, w32, to_z, of_z, length-set}
use Rattle.std.proofs.lemmas.Int.{ints}
use Rattle.text_source.specs.Lines.{tokens_from}
use Rattle.text_source.proofs.Collects.{run_step}
use Rattle.text_source.proofs.Scans.{told_tokens, told_line}
use Rattle.text_source.proofs.parser.run.Goals as goal

pub loop-token-preserved : goal.loop-token-preserved
loop-token-preserved g c =
    let i = c.loop-token.invariant in
    let n = c.loop-token.n in
    let z = c.in-Number.z in
    let x = c.in_ok-x.x in
    let rest = c.in-Number.rest.now in
    let y : to_z w32 (of_z w32 z) ≡ z = omega (arith, ints) in
    let e : z ≡ to_z w32 0 → ⊥ = λ e. c.if-z-eq0.false (ap (of_z w32) e) in
    let k : g.T.Kept.keep z ≡ Some x = sym (rw (y, c.in_ok-x.ensures.ok_part) at c.kept.ensures) in
    let was = c.in-Number.is in
    record {
      is = run_step g.T.Kept.keep (tokens_from c.args.first) c.loop-token.out n z x _ _ e k (omega (arith, i.few)) (told_tokens rest c.scan-token.result c.scan-token.ensures) (rw was at i.is);
      few = let l = length-set c.loop-token.out n x in omega (arith, i.few, l);
      line = told_line rest c.scan-token.result c.scan-token.ensures ∙ (rw was at i.line);
    }
