-- The lemmas that the proofs share.
pub mod Collects
pub mod Readings
pub mod Scans
pub mod Texts
