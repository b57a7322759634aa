use Rattle.std.proofs.Common.{◌≡◌, ℕ, ◌+◌, ◌≤◌, [], ◌∷◌, get_or, drop, set, pos, neg_ℤ, sym, ap, ◌∙◌, subst, arith, rules, Err}
use Rattle.std.proofs.lemmas.Grind.{common_steps}
use Rattle.formula.specs.Clauses.{LiteralOf}
use Rattle.lines.specs.Tables.{variables_in, named_in}
use Rattle.rup.specs.Bytes.{byte_of, Shows}
use Rattle.rup.specs.Propagation.{left}
use Rattle.rup.proofs.Lefts.{SeenOf}
use Rattle.rup.proofs.Shown.{shows_more, opposite_of}
use Rattle.rup.proofs.Walks.{walk_at, no_hint, walk_end}
use Rattle.rup.proofs.propagation.walk.Goals as goal

pub literals-preserved-then-bytes-byte_of-ne0 : goal.literals-preserved-then-bytes-byte_of-ne0
literals-preserved-then-bytes-byte_of-ne0 c = (c.literals.invariant.0, c.literals.invariant.1, grind (arith, common_steps))

pub literals-preserved : goal.literals-preserved
literals-preserved c = (c.literals.invariant.0, search rules, grind (arith, common_steps))

pub hints-preserved : goal.hints-preserved
hints-preserved c =
    let v = variables_in c.args.lines.now in
    let K = named_in c.args.lines.now in
    let hs = c.args.hints.now in
    let p = c.hints.p in
    let cl = c.in-Some.clause.now in
    let l = c.in-Some-unit-2.l in
    let lit : LiteralOf v l = subst (SeenOf v) c.in-Some-unit-2.is c.literals.invariant.1 in
    let most : v ≤ 4096 = c.args.lines.now.formula.now.low in
    let low = lit.1 in
    let b : c.byte_of-in-Some-unit-2.result ≡ byte_of (neg_ℤ l) = grind (arith, common_steps) in (
      c.literals.invariant.0,
      λ cs falses all s.
          let h = c.hints.invariant.1 cs falses all s in
          let gs = h.0 in
          let u : left gs cl ≡ l ∷ [] = grind (arith, common_steps, c.literals.invariant.2 gs h.1) in (
            neg_ℤ l ∷ gs,
            subst (λ (k : ℕ). Shows v (set c.hints.bytes k 1) (neg_ℤ l ∷ gs)) (sym b) (shows_more v c.hints.bytes gs (neg_ℤ l) (opposite_of v l lit) h.1),
            h.2 ∙ walk_at K hs cs gs p all cl _ c.hints-test.true c.in-Some.ensures.is u,
          ),
    )

pub returns-after-hints : goal.returns-after-hints
returns-after-hints c = λ cs falses all s.
    let K = named_in c.args.lines.now in
    let h = c.hints.invariant.1 cs falses all s in
    c.hints.invariant.0 ∙ sym (h.2 ∙ walk_end K c.args.hints.now cs h.0 c.hints.p all c.hints.auto.p-end c.hints-test.false)

pub returns-in_default : goal.returns-in_default
returns-in_default c = λ cs falses all s. absurd (no_hint (named_in c.args.lines.now) c.args.hints.now cs falses c.hints.p all c.hints-test.true c.in_default.ensures.is)

pub returns-in-Some-unit : goal.returns-in-Some-unit
returns-in-Some-unit c = λ cs falses all s.
    let K = named_in c.args.lines.now in
    let hs = c.args.hints.now in
    let p = c.hints.p in
    let cl = c.in-Some.clause.now in
    let i = c.literals.l-index in
    let z = get_or cl i (pos 0) in
    let h = c.hints.invariant.1 cs falses all s in
    let gs = h.0 in
    let two : left gs cl ≡ c.in-Some-unit.field-0 ∷ z ∷ left gs (drop (i + 1) cl) = grind (arith, common_steps, c.literals.invariant.2 gs h.1) in
    ap Err c.at-in-Some-unit.ensures ∙ sym (h.2 ∙ walk_at K hs cs gs p all cl _ c.hints-test.true c.in-Some.ensures.is two)

pub returns-in-None-unit : goal.returns-in-None-unit
returns-in-None-unit c = λ cs falses all s.
    let K = named_in c.args.lines.now in
    let hs = c.args.hints.now in
    let p = c.hints.p in
    let cl = c.in-Some.clause.now in
    let h = c.hints.invariant.1 cs falses all s in
    let gs = h.0 in
    let u : left gs cl ≡ [] = grind (arith, common_steps, c.literals.invariant.2 gs h.1) in
    sym (h.2 ∙ walk_at K hs cs gs p all cl _ c.hints-test.true c.in-Some.ensures.is u)
