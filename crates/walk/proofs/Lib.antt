pub mod Acted
pub mod Walked
pub mod Going
pub mod Dealt
pub mod Counted
