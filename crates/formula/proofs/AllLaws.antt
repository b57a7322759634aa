-- The laws over the reading of formulas stand.
use Rattle.formula.specs.Laws.{Laws}
use Rattle.formula.proofs.Limits.{reads_within}
use Rattle.formula.proofs.Satisfied.{literal, satisfied}
use Rattle.formula.proofs.Plain.{reads_plain}

pub laws : Laws
laws = record { plain = reads_plain; limits = reads_within; literal = literal; satisfied = satisfied }
