-- Where a word ends.
use Rattle.std.proofs.Common.{◌≡◌, ◌-◌, length, take, sym, ap, ◌∙◌}
use Rattle.text.specs.Fronts.{behind_word}
use Rattle.text.proofs.Firsts.{word_taken, word_over, word_stays}
use Rattle.text.proofs.scanner.split_word.Goals as goal
use Rattle.text.proofs.scanner.split_word.Goals.{in_default, in-len1-up+then-is_end}

pub returns-clause-word : goal.returns-clause-word
returns-clause-word c =
    let text = c.args.text.now in
    let rest = c.loop-rest.rest.now in
    let r : behind_word rest ≡ rest = elim c.if-rest-lt1.branch [ in_default w ↦ word_over rest w.in_default.len_below | in-len1-up+then-is_end w ↦ word_stays rest (sym w.if-is_end.ensures) ] in
    ap (λ r. take (length text - length r) text) (sym r ∙ c.loop-rest.invariant.0) ∙ word_taken text
