pub mod Made
pub mod Measures
pub mod Numbers
