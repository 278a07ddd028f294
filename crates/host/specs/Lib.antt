pub mod Words
pub mod WideWords
pub mod Replies
pub mod Faces
