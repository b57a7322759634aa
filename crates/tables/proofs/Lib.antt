pub mod Fronts
pub mod Overs
