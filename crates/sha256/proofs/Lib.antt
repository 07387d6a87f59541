pub mod Messages
pub mod Steps
