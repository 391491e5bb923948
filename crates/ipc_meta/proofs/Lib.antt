pub mod Binds
pub mod Each
pub mod StatedTypes
pub mod Steps
pub mod Sound
pub mod Numbers
mod BatchPairs
pub mod Complete
pub mod Unique
pub mod Empty
pub mod Texts
pub mod refused
pub mod GoodTypes
pub mod Spent
pub mod Entries
pub mod Totals
pub mod written
pub mod Wider
