use Rattle.std.proofs.Common.{◌≡◌, List, ◌++◌, length, drop, ℤ, Ok}
use Rattle.answers.specs.declared.fault.Fault.TheVariants.{NoConflict}
use Rattle.formula.specs.Clauses.{Clause}
use Rattle.lines.specs.Tables.{variables_in, named_in}
use Rattle.rup.specs.Bytes.{Shows}
use Rattle.rup.specs.Propagation.{fails, gather, left, walk}
use Rattle.rup.proofs.Lefts.{seen, SeenOf}
use Rattle.rup.proofs.propagation.walk.Given as goal

abbrev pub invariant-hints : goal.invariant-hints
invariant-hints l =
    (l.verdict ≡ fails NoConflict (length l.hints)) ×
    ((cs : List Clause) (falses : List ℤ) → gather (named_in l.lines) 0 l.hints ≡ Ok cs → Shows (variables_in l.lines) l.initial.bytes falses →
    (gs : List ℤ) × Shows (variables_in l.lines) l.bytes gs × (walk falses 0 cs ≡ walk gs l.p (drop l.p cs)))

abbrev pub invariant-literals : goal.invariant-literals
invariant-literals l =
    (l.verdict ≡ fails NoConflict (length l.hints)) ×
    SeenOf (variables_in l.lines) l.unit ×
    ((gs : List ℤ) → Shows (variables_in l.lines) l.bytes gs → left gs l.clause ≡ seen l.unit ++ left gs (drop l.l-index l.clause))
