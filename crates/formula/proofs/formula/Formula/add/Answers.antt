-- A clause more keeps what the tables are.
use Rattle.std.proofs.Common.{◌≡◌, [], ◌∷◌, ◌++◌, length, sym, ap, ◌∙◌, subst, arith}
use Rattle.std.proofs.lemmas.List.{length-append}
use Rattle.tables.specs.Filled.{filled}
use Rattle.formula.specs.Spans.{Inside, Ranged, span_at}
use Rattle.formula.proofs.Elements.{all_put}
use Rattle.formula.proofs.SpanParts.{inside_more, ranged_more}
use Rattle.formula.proofs.formula.Formula.add.Goals as goal

pub invariant_of-self-clause-inside : goal.invariant_of-self-clause-inside
invariant_of-self-clause-inside c =
    let f = c.args.self.now in
    let ls = filled f.literals in
    let ss = filled f.spans in
    let us = c.args.clause.now in
    let s = span_at c.len.result us in
    let p : filled c.extend.new.self ≡ ls ++ us = all_put _ _ _ _ (ls ++ us) ls c.extend.ensures.answer c.extend.ensures.list c.requires.space.0 in
    let q : filled c.push.new.self ≡ ss ++ s ∷ [] = all_put _ _ _ _ (ss ++ s ∷ []) ss c.push.ensures.answer c.push.ensures.list (omega (arith, c.requires.space.1)) in
    let m = ap length p ∙ length-append ls us in
    subst (Inside (length (filled c.extend.new.self))) (sym q) (inside_more (length ls) _ ss s f.inside (omega (arith, m)) (omega (arith, m, c.len.ensures)))

pub invariant_of-self-clause-ranged : goal.invariant_of-self-clause-ranged
invariant_of-self-clause-ranged c =
    let f = c.args.self.now in
    let ls = filled f.literals in
    let us = c.args.clause.now in
    let p : filled c.extend.new.self ≡ ls ++ us = all_put _ _ _ _ (ls ++ us) ls c.extend.ensures.answer c.extend.ensures.list c.requires.space.0 in
    subst (Ranged f.variables) (sym p) (ranged_more f.variables ls us f.ranged c.requires.ranged)
