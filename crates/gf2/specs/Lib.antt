pub mod Algebra
pub mod Laws
