pub mod Ascends
pub mod Layout
pub mod Encodes
pub mod Room
pub mod Trees
