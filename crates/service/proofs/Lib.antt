pub mod Given
pub mod Openings
pub mod Answered
pub mod Examples
