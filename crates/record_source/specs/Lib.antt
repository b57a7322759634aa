-- The definitions that the contracts cite.
pub mod Fields
pub mod Records
pub mod Reading
pub mod Lefts
pub mod Tells
pub mod Keeps
pub mod Cursors
pub mod Written
pub mod Laws
