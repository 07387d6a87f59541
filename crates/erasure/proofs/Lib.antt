pub mod Bounds
pub mod Rises
pub mod Horner
pub mod Factors
pub mod Tables
pub mod Recovers
pub mod Parity
pub mod Parts
