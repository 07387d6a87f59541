pub mod Claims
pub mod Cuts
pub mod Forms
pub mod Records
