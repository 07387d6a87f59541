pub mod Compression
pub mod Message
pub mod Vars
pub mod Digests
