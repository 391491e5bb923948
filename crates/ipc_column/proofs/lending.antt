pub mod Chunks
pub mod Slots
pub mod FixedLists
pub mod Widths
pub mod Slices
pub mod Lent
pub mod Lendings
pub mod CellIters
