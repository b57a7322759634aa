-- The source at a place, among the others.
use Rattle.std.proofs.Common.{[], map, get_or, set, ap, ◌∙◌}
use Rattle.std.proofs.lemmas.List.{map-set, get_or_default}
use Rattle.source.specs.Items.{behind_first}
use Rattle.sources.proofs.Members.{member, unchanged}
use Rattle.sources.proofs.solvers.step_at.Goals as goal

pub returns-then-i-sources-clause-items : goal.returns-then-i-sources-clause-items
returns-then-i-sources-clause-items g c =
    let ss = c.args.sources.now in
    let i = c.args.i in
    let r = c.index-sources-i.result in
    let l = c.if-i-sources.true in
    map-set g.S.Source.items ss i c.step.new.self ∙ ap (set (map g.S.Source.items ss) i) (c.step.ensures.after ∙ ap behind_first (member g.S.Source.items ss i [] (get_or ss i r) l (get_or_default ss i r (get_or ss i r) l)))

pub returns-then-i-sources-clause-endings : goal.returns-then-i-sources-clause-endings
returns-then-i-sources-clause-endings g c =
    let ss = c.args.sources.now in
    let i = c.args.i in
    let r = c.index-sources-i.result in
    let l = c.if-i-sources.true in
    unchanged g.S.Source.ending ss i (get_or ss i r) c.step.new.self l (get_or_default ss i r (get_or ss i r) l) c.step.ensures.ending
