pub mod Ready
pub mod Meaning
pub mod Once
