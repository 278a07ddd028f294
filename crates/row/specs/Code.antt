pub mod Shape
pub mod Spread
pub mod Streams
pub mod Products
pub mod Gather
pub mod Shares
