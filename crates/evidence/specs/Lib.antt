pub mod Evidence
pub mod Paths
