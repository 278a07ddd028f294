pub mod Link
pub mod Listed
pub mod Walked
pub mod Meant
pub mod Alike
pub mod Dealt
pub mod Independent
