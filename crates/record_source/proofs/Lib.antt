-- Lemmas that several proofs share.
pub mod Steps
pub mod Ends
pub mod Places
pub mod ReadBack
