pub mod Orders
pub mod Sums
pub mod Action
pub mod Ring
pub mod Derivation
pub mod Division
pub mod Composition
pub mod Words
