use Rattle.std.proofs.Common.{ℕ, ◌*◌, ◌<◌, ◌≤◌, leb, length, take, sym, ◌∙◌, subst, arith}
use Rattle.std.proofs.lemmas.List.{get_or-take, length-take-le}
use Rattle.std.proofs.lemmas.Bool.{and_from, le-leb}
use Rattle.rup.specs.Assignments.{bytes_of}
use Rattle.rup.specs.Bytes.{all_zero}
use Rattle.rup.proofs.Shown.{each_zero}
use Rattle.rup.proofs.assignment.AssignmentBytes.is_clean.Goals as goal

pub returns-then-n-self-clause-answer : goal.returns-then-n-self-clause-answer
returns-then-n-self-clause-answer c =
    let a = c.args.self.now in
    let bs = bytes_of a in
    let n = 2 * c.args.variables in
    let w : a.known ≤ length bs = a.within in
    let k : n ≤ a.known = c.if-n-self.true in
    let l : n ≤ length bs = omega arith in
    let z = each_zero (take n bs) (λ j q. let r : j < n = subst (λ (m : ℕ). j < m) (length-take-le n bs l) q in get_or-take n bs j 0 r ∙ a.zero j (omega arith)) in
    sym (and_from (leb n (length bs)) (all_zero (take n bs)) (le-leb n (length bs) l) z)
