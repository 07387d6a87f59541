pub mod Cuts
pub mod Fits
pub mod Heads
pub mod Lengths
pub mod Puts
pub mod Slices
pub mod Trips
