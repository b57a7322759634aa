-- A scan is told behind the blanks.
use Rattle.std.proofs.Common.{◌≡◌, ap, ◌∙◌, sym, arith, w32, to_z, of_z}
use Rattle.std.proofs.lemmas.Int.{ints}
use Rattle.text.specs.Words.Token.{number, word}
use Rattle.text.proofs.Tells.{told_end, told_feed, told_goes, word_nonempty}
use Rattle.text.proofs.scanner.scan.Goals as goal

pub returns-in_default : goal.returns-in_default
returns-in_default c = told_end c.args.text.now c.skip_blanks-front.result.now c.skip_blanks-front.ensures c.in_default.ensures.cases

pub returns-then-first-eq10 : goal.returns-then-first-eq10
returns-then-first-eq10 c = told_feed c.args.text.now c.skip_blanks-front.result.now c.in-Some.first.now c.in-Some.behind.now c.skip_blanks-front.ensures c.in-Some.ensures.cases.0 c.if-first-eq10.true

pub returns-in-Some-number : goal.returns-in-Some-number
returns-in-Some-number c =
    let n = c.in-Some-number.ensures in
    let z : c.in-Some-number.z ≡ to_z w32 (of_z w32 c.in-Some-number.z) = omega (arith, ints) in
    told_goes c.args.text.now c.skip_blanks-front.result.now c.in-Some.first.now c.in-Some.behind.now c.skip_blanks-front.ensures c.in-Some.ensures.cases.0 c.if-first-eq10.false _ c.in-Some-number.rest.now (n.0 ∙ ap number z) n.1

pub returns-in-None : goal.returns-in-None
returns-in-None c =
    let w = c.split_word.ensures in
    let text = c.args.text.now in
    let front = c.skip_blanks-front.result.now in
    let f = c.skip_blanks-front.ensures in
    let e = c.in-Some.ensures.cases.0 in
    (told_goes text front c.in-Some.first.now c.in-Some.behind.now f e c.if-first-eq10.false (word c.split_word.result.0.now) c.split_word.result.1.now (c.in-None.ensures ∙ ap word (sym w.word)) w.rest, word_nonempty text front c.in-Some.first.now c.in-Some.behind.now f e c.if-first-eq10.false c.split_word.result.0.now w.word)
