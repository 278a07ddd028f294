pub mod Holding
pub mod Columns
pub mod Unknowns
pub mod Acting
pub mod Meant
pub mod Alike
pub mod Square
