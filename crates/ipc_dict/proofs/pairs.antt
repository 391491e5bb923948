pub mod CoveredIndices
pub mod CoveredColumns
pub mod Covered
pub mod PairsFitEntries
pub mod PairsFit
