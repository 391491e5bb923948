mod Begun
mod Given
mod Invalid
mod Moved
mod Pairs
mod Sent
pub mod Sendable
