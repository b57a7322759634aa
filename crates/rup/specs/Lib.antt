pub mod Propagation
pub mod Bytes
pub mod Assignments
pub mod Verdicts
pub mod Offers
pub mod Laws
