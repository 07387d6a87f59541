pub mod Laws
pub mod Outcomes
