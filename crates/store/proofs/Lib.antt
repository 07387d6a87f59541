pub mod Asking
pub mod Takings
pub mod Sweeps
