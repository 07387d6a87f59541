pub mod Meaning
pub mod Refusals
pub mod Showing
pub mod Sweeping
pub mod Taking
