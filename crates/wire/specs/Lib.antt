pub mod Kinds
pub mod Parts
pub mod Readers
pub mod Reading
pub mod Refusals
pub mod Values
pub mod Writing
