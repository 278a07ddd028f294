pub mod Decimal
pub mod Written
pub mod Lines
pub mod Examples
pub mod Front
