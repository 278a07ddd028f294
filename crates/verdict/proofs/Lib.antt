pub mod Told
pub mod Verdicts
pub mod Cells
pub mod Scan
pub mod SomeBits
pub mod Passes
pub mod Calls
pub mod Once
