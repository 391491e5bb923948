-- Properties of the indices of values (Arrow Columnar Format, "Dictionary-encoded Layout").
use Rattle.std.specs.Prelude.{◌≡◌, ℕ, ℤ, pos, Bool, true, false, List, Some, slice_get, ⊤}
use Rattle.std.specs.List.{AllByRecursion}
use Rattle.ipc_model.specs.Ranges.{width, IsSignedWithin, IsUnsignedWithin}
use Rattle.ipc_model.specs.declared.schema.Field.{Field}
use Rattle.ipc_model.specs.declared.schema.IntBits.{IntBits}
use Rattle.ipc_model.specs.declared.value.Value.{Value}
use Rattle.ipc_model.specs.declared.layout.Layout.{Layout}
use Rattle.ipc_model.specs.declared.layout.Layout.TheVariants as l
use Rattle.ipc_column.specs.Dictionaries.{Dictionaries, values_for}
use Rattle.ipc_column.specs.Shapes.{Shape, shape_of}
use Rattle.ipc_encode.specs.Pieces.{Valid}
use Rattle.ipc_encode.specs.Cells.{is_set}
use Rattle.ipc_encode.specs.Buffers.{EachColumn, row_columns}
use Rattle.ipc_encode.specs.Numbers.{Numbering}

-- `Asked` holds for each value other than null in a column of indices, with their width and sign
-- and the dictionary's id; nothing is stated for other columns
abbrev pub InColumn : (IntBits → Bool → ℤ → Value → Type 0) → Layout → List Value → Type 0
InColumn Asked (l.Indices bits signed id) values =
    AllByRecursion (λ value. is_set Valid value ≡ true → Asked bits signed id value) values
InColumn Asked l.Null values = ⊤
InColumn Asked l.Bits values = ⊤
InColumn Asked (l.Numbers bits signed) values = ⊤
InColumn Asked (l.FixedBytes width) values = ⊤
InColumn Asked (l.VariableBytes utf8) values = ⊤
InColumn Asked l.Lists values = ⊤
InColumn Asked (l.FixedLists size) values = ⊤
InColumn Asked l.Structs values = ⊤

-- `Asked` holds for the indices of each column and each column below it (`InColumn`)
abbrev pub InColumns : (IntBits → Bool → ℤ → Value → Type 0) → Shape → (ℕ → List Value) → Type 0
InColumns Asked = EachColumn (InColumn Asked)

-- `Asked` holds for the indices of the columns of rows (`InColumn`)
abbrev pub InRows : (IntBits → Bool → ℤ → Value → Type 0) → List Field → List (List Value) → Type 0
InRows Asked fields rows = InColumns Asked (shape_of fields) (row_columns rows)

-- an index is one of its type (Schema.fbs, DictionaryEncoding, `indexType`)
abbrev pub IsIndexWithin : IntBits → Bool → ℕ → Type 0
IsIndexWithin bits true i = IsSignedWithin (width bits) (pos i)
IsIndexWithin bits false i = IsUnsignedWithin (width bits) i

-- the index of a value fits its type, and the value is at this index of its dictionary
pub record FindsIndex (m : Dictionaries) (indices : Numbering) (bits : IntBits) (signed : Bool)
    (id : ℤ)
    (value : Value) : Type 0 where
  pub within : IsIndexWithin bits signed (indices id value)
  pub value_is : slice_get (values_for m id) (indices id value) ≡ Some value

-- under these dictionaries, each dictionary value of the rows is at its index
abbrev pub FindsRows : Dictionaries → Numbering → List Field → List (List Value) → Type 0
FindsRows m indices = InRows (FindsIndex m indices)

-- both numberings give each dictionary value of the rows the same index
abbrev pub AgreeOn : Numbering → Numbering → List Field → List (List Value) → Type 0
AgreeOn indices others =
    InRows (λ bits signed id value. indices id value ≡ others id value)
