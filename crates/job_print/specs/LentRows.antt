-- Rows of columns that a batch lends.
use Rattle.std.specs.Prelude.{◌≡◌, ℕ, ◌<◌, List, [], length, map, slice_index_or}
use Rattle.std.specs.List.{AllByRecursion}
use Rattle.ipc_model.specs.declared.value.Value.{Value}
use Rattle.ipc_model.specs.declared.value.Value.TheVariants as v

-- the value of each column in a row
abbrev pub row_at : List (List Value) → ℕ → List Value
row_at columns row = map (λ values. slice_index_or values row v.Null) columns

-- each column has a value in a row
abbrev pub HaveRow : List (List Value) → ℕ → Type 0
HaveRow columns row = AllByRecursion (λ values. row < length values) columns

-- the columns have exactly the values of the rows
pub record AreColumnsOfRows (rows columns : List (List Value)) : Type 0 where
  pub have : (i : ℕ) → i < length rows → HaveRow columns i
  pub same : (i : ℕ) → i < length rows → row_at columns i ≡ slice_index_or rows i []
