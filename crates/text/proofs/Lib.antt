-- The lemmas that the proofs share.
pub mod Steps
pub mod Firsts
pub mod Tells
pub mod Lines
pub mod Written
