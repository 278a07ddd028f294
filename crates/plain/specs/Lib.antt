pub mod Elimination
pub mod Calls
pub mod Code
