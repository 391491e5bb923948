-- The dictionary values of a row, each with its dictionary's id (Arrow Columnar Format,
-- "Dictionary-encoded Layout").
use Rattle.std.specs.Prelude.{ℤ, List, [], ◌∷◌, ◌++◌, map, Option, Some, None}
use Rattle.ipc_model.specs.declared.schema.DataType.{DataType}
use Rattle.ipc_model.specs.declared.schema.DataType.TheVariants as t
use Rattle.ipc_model.specs.declared.schema.Dictionary.{Dictionary}
use Rattle.ipc_model.specs.declared.schema.Field.{Field, fold-Field}
use Rattle.ipc_model.specs.declared.schema.Field.TheOpen.{Field-F}
use Rattle.ipc_model.specs.declared.value.Value.{Value, out-Value}
use Rattle.ipc_model.specs.declared.value.Value.TheOpen.{Value-F}

-- dictionary values, each with the id of its dictionary
abbrev pub Pairs : Type 0
Pairs = List (ℤ × Value)

-- the pairs of a value in one field
abbrev pub Walk : Type 0
Walk = Value → Pairs

-- the pairs of a list's values, in order
abbrev pub items_pairs : Walk → List Value → Pairs
items_pairs walk [] = []
items_pairs walk (v ∷ vs) = walk v ++ items_pairs walk vs

-- the pairs of values, each in the field at its index, from left to right
abbrev pub each_pairs : List Walk → List Value → Pairs
each_pairs [] vs = []
each_pairs (walk ∷ walks) [] = []
each_pairs (walk ∷ walks) (v ∷ vs) = walk v ++ each_pairs walks vs

-- the pairs of the values inside a list or a struct; none for any other value
abbrev pub inner_pairs : DataType → List Walk → Value-F Value → Pairs
inner_pairs t.List (walk ∷ more) (Value-F.List vs) = items_pairs walk vs
inner_pairs (t.FixedSizeList n) (walk ∷ more) (Value-F.List vs) = items_pairs walk vs
inner_pairs t.Struct walks (Value-F.Struct vs) = each_pairs walks vs
inner_pairs _ walks v = []

-- the pair of a value other than null; none for null
abbrev pub own_pair : ℤ → Value → Value-F Value → Pairs
own_pair id v Value-F.Null = []
own_pair id v _ = (id, v) ∷ []

-- the pairs of a value: its own, if its field has a dictionary; otherwise those of the values
-- inside it
abbrev pub value_pairs : Option Dictionary → DataType → List Walk → Value → Pairs
value_pairs (Some d) kind walks v = own_pair d.id v (out-Value v)
value_pairs None kind walks v = inner_pairs kind walks (out-Value v)

-- the pairs of a value in a field, given the pairs of values in its children
abbrev pub pairs_step : Field-F Walk → Walk
pairs_step f v = value_pairs f.dictionary f.kind f.children v

-- the pairs of a value in a field, depth first
abbrev pub pairs : Field → Walk
pairs = fold-Field Walk pairs_step

-- the pairs of a row
abbrev pub row_pairs : List Field → List Value → Pairs
row_pairs fields row = each_pairs (map pairs fields) row

-- the pairs of several rows, one row after another
abbrev pub rows_pairs : List Field → List (List Value) → Pairs
rows_pairs fields [] = []
rows_pairs fields (row ∷ rows) = row_pairs fields row ++ rows_pairs fields rows
