-- The numbers of a dictionary's values that were looked up so far (Arrow Columnar Format,
-- "Dictionary-encoded Layout").
use Rattle.std.specs.Prelude.{◌≡◌, ℕ, ◌<◌, List, Option, Some, None, length, slice_index_or}
use Rattle.ipc_model.specs.declared.value.Value.{Value}
use Rattle.ipc_model.specs.declared.value.Value.TheVariants as v
use Rattle.ipc_encode.specs.Numbers.{index_of}

-- the table has a place for each value of the dictionary; a number in it is that of the value,
-- which is not null
pub record HasNumbers (number_of : Value → ℕ) (dictionary : List Value)
    (table : List (Option ℕ)) : Type 0 where
  pub size : length table ≡ length dictionary
  pub each : (i number : ℕ) → i < length dictionary → slice_index_or table i None ≡ Some number
      → index_of number_of (slice_index_or dictionary i v.Null) ≡ Some number
