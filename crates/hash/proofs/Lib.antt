pub mod BlockSize
pub mod Digested
