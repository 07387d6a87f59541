mod Fits
mod Joined
mod Levels
pub mod Found
