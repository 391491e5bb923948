pub mod Alone
pub mod ColumnCounts
pub mod Explaining
pub mod Fronts
pub mod Joined
pub mod Paths
pub mod RefusedRecords
