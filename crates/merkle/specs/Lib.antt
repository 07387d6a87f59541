pub mod Tree
pub mod Climb
pub mod Binding
pub mod Layout
pub mod Laws
