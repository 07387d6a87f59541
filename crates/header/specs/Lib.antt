pub mod Fields
pub mod Lines
pub mod Refusals
pub mod Sizes
