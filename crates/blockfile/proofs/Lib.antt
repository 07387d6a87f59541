pub mod Cells
pub mod Heads
pub mod Kept
pub mod Opens
pub mod Shares
pub mod Walks
