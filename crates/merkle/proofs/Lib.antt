pub mod Climbing
pub mod Bound
pub mod Chunks
pub mod Even
pub mod Same
pub mod Steps
pub mod Layouts
