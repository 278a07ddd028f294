pub mod Lengths
pub mod Words
pub mod FreshShift
pub mod AndPasses
pub mod Folding
pub mod Flag
pub mod Draws
pub mod Examples
