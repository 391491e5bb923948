pub mod Failures
pub mod Reports
pub mod Texts
