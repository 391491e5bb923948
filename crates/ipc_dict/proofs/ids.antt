pub mod OneId
pub mod SchemaIds
pub mod Ids
pub mod SchemaEntries
pub mod UniqueIds
