-- Where a schema differs from the one that is expected (Schema.fbs, tables Schema and Field).
use Rattle.std.specs.Prelude.{◌≡◌, ◌≢◌, ◌<◌, ◌⊎◌, ⊤, ℕ, List, [], ◌∷◌, Bool}
use Rattle.std.specs.Prelude.{Option, Some, None, slice_get}
use Rattle.ipc_model.specs.declared.schema.DataType.{DataType}
use Rattle.ipc_model.specs.declared.schema.Dictionary.{Dictionary}
use Rattle.ipc_model.specs.declared.schema.Field.{Field, out-Field}
use Rattle.ipc_model.specs.declared.schema.Field.TheOpen.{Field-F}
use Rattle.ipc_model.specs.declared.schema.IndexType.{IndexType}
use Rattle.ipc_model.specs.declared.schema.Schema.{Schema}

-- what is compared of a field itself: its name, its type and whether its values may be null, and of
-- its dictionary the type of the indices and whether the order of the values is meaningful. The id
-- of the dictionary and the pairs of metadata are left out
pub record Compared : Type 0 where
  pub name : List ℕ
  pub kind : DataType
  pub nullable : Bool
  pub encoding : Option (IndexType × Bool)

-- what is compared of a dictionary
abbrev pub encoding_of : Option Dictionary → Option (IndexType × Bool)
encoding_of None = None
encoding_of (Some dictionary) = Some (dictionary.index, dictionary.ordered)

-- what is compared of a field
abbrev pub compared : {A : Type 0} → Field-F A → Compared
compared f = record {
  name = f.name;
  kind = f.kind;
  nullable = f.nullable;
  encoding = encoding_of f.dictionary;
}

-- what is compared of a field, if there is one
abbrev pub compared_if_any : Option Field → Option Compared
compared_if_any None = None
compared_if_any (Some field) = Some (compared (out-Field field))

-- the children of a field, or none if there is no field
abbrev pub children_if_any : Option Field → List Field
children_if_any None = []
children_if_any (Some field) = (out-Field field).children

-- what is compared of the field at a path: the number of the column, and then of each child on the
-- way, all counted from 0. There may be no such field
abbrev pub compared_at : List Field → List ℕ → Option Compared
compared_at fields [] = None
compared_at fields (number ∷ []) = compared_if_any (slice_get fields number)
compared_at fields (number ∷ next ∷ below) =
    compared_at (children_if_any (slice_get fields number)) (next ∷ below)

-- one path comes before another in pre-order: a field comes before its children, and these in their
-- order
abbrev pub IsBefore : List ℕ → List ℕ → Type 0
IsBefore path [] = ⊥
IsBefore [] (other ∷ more) = ⊤
IsBefore (number ∷ below) (other ∷ more) =
    (number < other) ⊎ ((number ≡ other) × IsBefore below more)

-- the same fields are at all paths
abbrev pub HaveSameFields : List Field → List Field → Type 0
HaveSameFields expected found = (path : List ℕ) → compared_at expected path ≡ compared_at found path

-- another field is at this path, or only one of the two has a field there; at each path before it
-- the fields are the same
pub record IsFirstDifference (expected found : List Field) (path : List ℕ) : Type 0 where
  pub differs : compared_at expected path ≢ compared_at found path
  pub first : (other : List ℕ) → IsBefore other path
      → compared_at expected other ≡ compared_at found other

-- a schema is as expected, if one is expected: the same fields are at all paths
abbrev pub IsExpected : Option Schema → Schema → Type 0
IsExpected None found = ⊤
IsExpected (Some expected) found = HaveSameFields expected.fields found.fields

-- a schema is another than the one that is expected, and differs first at this path
abbrev pub IsOther : Option Schema → Schema → List ℕ → Type 0
IsOther None found path = ⊥
IsOther (Some expected) found path = IsFirstDifference expected.fields found.fields path
