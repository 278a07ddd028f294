-- What the proofs of several functions use.
pub mod Record
pub mod WideRecord
pub mod Faces
pub mod Once
