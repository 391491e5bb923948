pub mod FromMemory
pub mod SentBytes
