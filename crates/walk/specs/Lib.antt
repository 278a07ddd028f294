pub mod Act
pub mod Walk
pub mod Dealing
