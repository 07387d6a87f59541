pub mod Squares
pub mod Lines
pub mod Extends
pub mod Fills
