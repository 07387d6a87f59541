pub mod Square
pub mod Lines
pub mod Laws
