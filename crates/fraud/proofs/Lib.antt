pub mod Cases
pub mod Words
pub mod Judging
