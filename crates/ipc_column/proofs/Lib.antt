pub mod Fields
pub mod Parts
pub mod Among
pub mod SlotValues
pub mod Opened
pub mod FittingValues
pub mod Entries
pub mod Cells
pub mod lending
mod Indexed
pub mod visited
pub mod Rules
pub mod Laws
pub mod Below
pub mod Wider
pub mod Found
pub mod Alone
pub mod Plain
