pub mod Products
pub mod Sums
pub mod Words
