-- The digits of a word, one by one.
use Rattle.std.proofs.Common.{sym, ◌∙◌}
use Rattle.text.proofs.Steps.{too_big, number_breaks}
use Rattle.text.proofs.scanner.digits.Goals as goal
use Rattle.text.proofs.scanner.digits.Goals.{then-not-is_ascii_digit-via-then-not-is_ascii_digit, then-not-is_ascii_digit-via-else-not-is_ascii_digit+then-size-gt-LIMIT}

pub returns-then-not-is_ascii_digit : goal.returns-then-not-is_ascii_digit
returns-then-not-is_ascii_digit c =
    elim c.then-not-is_ascii_digit.branch [
      | then-not-is_ascii_digit-via-then-not-is_ascii_digit w ↦ sym c.loop-rest.invariant.0 ∙ number_breaks c.loop-rest.rest.now c.loop-rest.size c.in-len1-up.len_at_least (sym c.if-is_end.ensures) (sym c.is_ascii_digit.ensures.value ∙ w.if-not-is_ascii_digit.true)
      | then-not-is_ascii_digit-via-else-not-is_ascii_digit+then-size-gt-LIMIT w ↦ sym c.loop-rest.invariant.0 ∙ too_big c.loop-rest.rest.now c.loop-rest.size w.if-size-gt-LIMIT.true
    ]
