pub mod Calendar
pub mod FaultLines
pub mod Temporals
pub mod Places
pub mod ShortTexts
