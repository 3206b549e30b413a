pub mod Texts
pub mod Joined
pub mod Searched
pub mod Ran
