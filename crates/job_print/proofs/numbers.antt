pub mod Decimals
pub mod HexDigits
pub mod Shifts
pub mod Parts
pub mod Zeros
