pub mod Climbs
pub mod Joining
pub mod Proving
