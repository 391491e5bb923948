pub mod RowJson
pub mod RowTokens
pub mod SchemaErrors
pub mod SchemaJson
pub mod SchemaMembers
pub mod SchemaTexts
