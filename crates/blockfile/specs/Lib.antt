pub mod File
pub mod Found
pub mod Index
pub mod Opening
pub mod Refusals
pub mod Steps
pub mod Walk
