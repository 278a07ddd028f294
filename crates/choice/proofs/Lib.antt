pub mod Doubling
pub mod Live
pub mod Writing
pub mod Preparing
