pub mod Spots
pub mod Laid
