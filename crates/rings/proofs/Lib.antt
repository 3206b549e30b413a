pub mod Determinants
pub mod Recurrence
pub mod Degrees
pub mod Cells
pub mod Steps
pub mod Refusals
