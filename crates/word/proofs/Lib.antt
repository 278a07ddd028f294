pub mod Lanes
pub mod Parts
pub mod Places
pub mod Putting
