pub mod Rules
pub mod Checks
pub mod Weights
pub mod Marks
pub mod Plain
