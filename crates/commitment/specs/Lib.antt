pub mod Commit
pub mod Roots
pub mod Values
