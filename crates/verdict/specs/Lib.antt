pub mod Told
pub mod Cells
pub mod Refusals
pub mod Calls
pub mod Code
