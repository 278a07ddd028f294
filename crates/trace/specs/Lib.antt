pub mod Driving
pub mod Numbers
pub mod Trace
pub mod Twin
