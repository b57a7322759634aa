pub mod AllLaws
pub mod Gathers
pub mod Lefts
pub mod Locality
pub mod Shown
pub mod Soundness
pub mod Walks
