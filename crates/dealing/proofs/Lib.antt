pub mod Lanes
pub mod Pairing
pub mod Taking
pub mod Writing
pub mod Dealing
