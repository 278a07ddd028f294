pub mod Ready
pub mod Calls
pub mod Examples
pub mod Once
pub mod Meaning
