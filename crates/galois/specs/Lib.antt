pub mod Field
pub mod Laws
pub mod Vectors
