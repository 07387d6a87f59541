pub mod Limits
pub mod Refusals
pub mod Places
pub mod Weights
pub mod Rows
pub mod Calls
