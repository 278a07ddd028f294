pub mod Poly
pub mod Field
pub mod Code
