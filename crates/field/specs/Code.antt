pub mod Power
pub mod Shift
