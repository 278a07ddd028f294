pub mod WideWalk
