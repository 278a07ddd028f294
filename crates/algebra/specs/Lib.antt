pub mod Linear
pub mod Steps
pub mod Wide
