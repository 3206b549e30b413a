pub mod Rigs
pub mod Held
pub mod Runs
pub mod Texts
