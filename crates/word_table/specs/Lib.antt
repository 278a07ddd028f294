pub mod Table
pub mod Code
