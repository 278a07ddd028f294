pub mod WideRefusals
pub mod WideCalls
