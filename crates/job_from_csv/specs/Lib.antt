pub mod Batches
pub mod Conversion
pub mod Steps
pub mod Stops
