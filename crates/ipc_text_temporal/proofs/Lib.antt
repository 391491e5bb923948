pub mod Ascii
pub mod Dates
pub mod Days
pub mod Placed
pub mod Plain
pub mod Taken
pub mod Times
pub mod TwoDigits
