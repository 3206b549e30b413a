pub mod Texts
pub mod Vectors
pub mod Outcomes
pub mod Replies
