pub mod Outcome
pub mod Shares
pub mod Splice
pub mod Window
pub mod Written
