pub mod Jobs
pub mod Lines
pub mod Summaries
