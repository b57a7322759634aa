-- The word at the front as a number without a sign.
use Rattle.std.proofs.Common.{◌≡◌, ℕ, ◌-◌, ◌≤◌, true, length, sym, ap, ◌∙◌, subst, arith}
use Rattle.text.specs.Words.{natural, digit}
use Rattle.text.specs.Fronts.{word_of, Digits, Sized, Natural, Naturals}
use Rattle.text.proofs.Tells.{nat_none, nat_zero, nat_sized}
use Rattle.text.proofs.scanner.natural.Goals as goal
use Rattle.text.proofs.scanner.natural.Goals.{else-first-eq48-via-then-first-eq48+else-rest-behind, else-first-eq48-via-else-first-eq48}

pub returns-in_err-n : goal.returns-in_err-n
returns-in_err-n c =
    let text = c.args.text.now in
    let first = c.in_ok-first.first.now in
    let behind = c.in_ok-first.behind.now in
    let d : digit first ≡ true = sym c.is_ascii_digit.ensures.value ∙ c.if-not-is_ascii_digit.false in
    let n = subst (Digits behind (first - 48)) c.in_err-n.was (subst (λ (k : ℕ). Digits behind k c.digits.result) c.from.ensures c.digits.ensures) in
    subst (Naturals text) (sym c.from_residual-in_err-n.ensures) (ap (λ t. natural (word_of t)) c.in_ok-first.ensures.cases.0 ∙ nat_none first behind d n)

pub returns-then-rest-behind : goal.returns-then-rest-behind
returns-then-rest-behind c =
    let first = c.in_ok-first.first.now in
    let behind = c.in_ok-first.behind.now in
    ap (λ t. natural (word_of t)) c.in_ok-first.ensures.cases.0 ∙ nat_zero first behind c.in_ok-n.n c.in_ok-n.rest.now c.if-first-eq48.true (subst (λ (k : ℕ). Sized behind k c.in_ok-n.n c.in_ok-n.rest.now) c.from.ensures c.in_ok-n.ensures) (omega (arith, c.if-rest-behind.true))

pub returns-else-first-eq48 : goal.returns-else-first-eq48
returns-else-first-eq48 c =
    let first = c.in_ok-first.first.now in
    let behind = c.in_ok-first.behind.now in
    let rest = c.in_ok-n.rest.now in
    let d : digit first ≡ true = sym c.is_ascii_digit.ensures.value ∙ c.if-not-is_ascii_digit.false in
    let s : first ≡ 48 → length behind ≤ length rest = elim c.else-first-eq48.branch [
      | else-first-eq48-via-then-first-eq48+else-rest-behind w ↦ λ z. omega (arith, w.if-rest-behind.false)
      | else-first-eq48-via-else-first-eq48 w ↦ λ z. absurd (w.if-first-eq48.false z)
    ] in
    subst (λ t. Natural t c.in_ok-n.n rest) (sym c.in_ok-first.ensures.cases.0) (nat_sized first behind c.in_ok-n.n rest d s (subst (λ (k : ℕ). Sized behind k c.in_ok-n.n rest) c.from.ensures c.in_ok-n.ensures))
