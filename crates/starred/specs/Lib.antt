pub mod Rows
pub mod Starred
pub mod Vectors
pub mod Lifted
