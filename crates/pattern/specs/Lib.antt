pub mod Pivots
pub mod PatternList
pub mod Next
pub mod Code
