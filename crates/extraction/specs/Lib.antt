pub mod Extracted
pub mod Extract
