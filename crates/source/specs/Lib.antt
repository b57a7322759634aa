pub mod Bodies
pub mod Items
pub mod Limits
pub mod Looks
pub mod Marks
