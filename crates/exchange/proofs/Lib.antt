pub mod Fields
pub mod Admitted
pub mod Parts
pub mod RoundTrip
pub mod Once
pub mod Examples
