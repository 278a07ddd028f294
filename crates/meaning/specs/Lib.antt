pub mod Meaning
pub mod Claims
