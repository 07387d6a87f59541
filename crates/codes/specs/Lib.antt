pub mod Over
pub mod Code
pub mod Words
pub mod Values
pub mod Grid
