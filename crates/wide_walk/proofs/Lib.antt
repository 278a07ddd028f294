pub mod Walked
pub mod Going
pub mod Examples
