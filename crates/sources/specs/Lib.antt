pub mod Kinds
pub mod Solvers
