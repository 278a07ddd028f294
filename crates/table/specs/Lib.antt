pub mod Layout
pub mod Steps
pub mod Costs
pub mod Values
pub mod Code
