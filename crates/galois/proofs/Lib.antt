pub mod Upto
pub mod Linear
pub mod Steps
pub mod Law
pub mod Vectors
