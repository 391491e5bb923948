pub mod Faulty
pub mod Flat
pub mod Texts
pub mod Views
