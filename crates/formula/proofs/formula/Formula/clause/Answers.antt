use Rattle.std.proofs.Common.{◌≡◌, ℕ, ◌+◌, ◌-◌, ◌≤◌, take, drop, Some, sym, ap, ◌∙◌, subst, arith}
use Rattle.std.specs.Option.{SomeIff}
use Rattle.std.specs.List.{slice_get}
use Rattle.tables.specs.Filled.{filled}
use Rattle.formula.specs.Spans.{part}
use Rattle.formula.proofs.SpanParts.{numbered_part}
use Rattle.formula.proofs.formula.Formula.clause.Goals as goal

pub returns-clause-is : goal.returns-clause-is
returns-clause-is c =
    let f = c.args.self.now in
    let n = c.args.number in
    let i = subst (λ o. SomeIff o (1 ≤ n) (n - 1)) c.in_ok-checked_sub.was c.checked_sub.ensures in
    let e = sym c.in_ok-span.was ∙ c.get.ensures ∙ ap (slice_get (filled f.spans)) i.1 in
    let s = c.in_ok-span.span in
    let w : s.at + s.len - s.at ≡ s.len = omega arith in
    ap Some (ap (λ (k : ℕ). take k (drop s.at c.as_slice.result.now)) w ∙ ap (part s) c.as_slice.ensures) ∙ numbered_part (filled f.literals) (filled f.spans) n (Some s) (λ z. omega (arith, i.0)) e
