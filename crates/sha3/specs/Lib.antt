pub mod Keccak
pub mod Lanes
pub mod Sponge
pub mod Digests
