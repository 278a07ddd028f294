pub mod WideTrace
pub mod WideSquare
