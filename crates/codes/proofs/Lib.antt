pub mod Ring
pub mod Bytes
pub mod Polynomial
pub mod Cauchy
pub mod Grid
pub mod Words
