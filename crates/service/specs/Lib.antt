pub mod Searches
pub mod Texts
pub mod Promises
pub mod Examples
