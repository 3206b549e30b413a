pub mod Identity
pub mod Systems
pub mod Spans
pub mod Undoing
pub mod Lists
pub mod Views
pub mod EquationLaws
