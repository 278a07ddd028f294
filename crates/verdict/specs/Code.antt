pub mod Scan
pub mod Verdicts
