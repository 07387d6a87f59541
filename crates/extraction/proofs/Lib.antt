pub mod Fitting
pub mod Against
pub mod Searches
pub mod Paths
pub mod Collides
pub mod Comparing
pub mod Extracting
pub mod Refusing
