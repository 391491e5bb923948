pub mod PlainColumns
pub mod Mismatches
