pub mod Bounds
pub mod Run
pub mod Rules
pub mod Lists
pub mod Code
