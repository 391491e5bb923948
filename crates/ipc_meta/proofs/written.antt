pub mod Standing
pub mod WrittenParts
pub mod WrittenTypes
pub mod WrittenFields
pub mod WrittenHeads
pub mod WrittenTrees
pub mod WrittenOrder
pub mod WrittenAnswers
