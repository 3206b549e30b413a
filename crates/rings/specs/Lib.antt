pub mod Determinant
pub mod Vectors
pub mod Cells
pub mod Questions
pub mod Texts
