pub mod Puts
pub mod ValuesColumns
pub mod Named
pub mod Leaves
