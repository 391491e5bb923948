pub mod Refused
pub mod RefusedTypes
pub mod RefusedFields
pub mod RefusedSchemas
