pub mod StepList
pub mod Taken
pub mod Next
pub mod Code
