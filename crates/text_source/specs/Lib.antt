-- The definitions that the contracts cite.
pub mod Parse
pub mod Reading
pub mod Lefts
pub mod Lines
pub mod Keeps
pub mod Texts
pub mod Laws
