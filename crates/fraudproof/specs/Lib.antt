pub mod Form
pub mod Left
pub mod Proof
pub mod Reads
pub mod Witness
