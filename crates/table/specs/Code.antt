pub mod Refreshing
pub mod Joining
