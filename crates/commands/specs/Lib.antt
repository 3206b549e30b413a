pub mod Commands
pub mod Patterns
pub mod Replies
