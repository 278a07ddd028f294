pub mod Orders
pub mod Standing
pub mod Sharewise
pub mod Producing
pub mod Summing
pub mod Joining
pub mod Choosing
pub mod JoinLaw
