pub mod Flag
pub mod Code
