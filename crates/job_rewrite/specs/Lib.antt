pub mod RewriteLimits
pub mod Reporting
pub mod Totals
pub mod Rewriting
pub mod Outputs
