pub mod Held
pub mod Rows
pub mod Index
pub mod Tables
