pub mod InForce
pub mod ValuesColumns
pub mod DictionariesState
