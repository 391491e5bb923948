-- The dictionaries in force, as values in contracts.
use Rattle.std.specs.Prelude.{ℤ, List}
use Rattle.ipc_model.specs.declared.schema.Field.{Field}
use Rattle.ipc_column.specs.Contents.{Contents}

-- the columns with which each dictionary of the schema is read, and the values in force, by the
-- dictionaries' ids
pub record DictionariesState : Type 0 where
  pub columns : List (ℤ × List Field)
  pub current : List (ℤ × Contents)
