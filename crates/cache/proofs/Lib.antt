pub mod Keepers
pub mod Bringing
pub mod Answering
