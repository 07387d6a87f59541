pub mod Weak
pub mod Few
