-- The laws over the check of a line. Assumes nothing.
use Rattle.rup.specs.Laws.{Laws}
use Rattle.rup.proofs.Locality as locality
use Rattle.rup.proofs.Soundness as soundness

pub laws : Laws
laws = record { sound = soundness.sound; local = locality.local; more = locality.more }
