pub mod Blocks
pub mod Rounds
