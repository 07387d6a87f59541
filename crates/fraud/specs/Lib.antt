pub mod Accepted
pub mod Charge
pub mod Check
pub mod Refusals
