-- The columns with which a schema's dictionaries are read (Arrow Columnar Format, "Dictionary
-- Messages": a dictionary batch is a record batch of one column).
use Rattle.std.specs.Prelude.{◌≡◌, ℕ, ℤ, List, [], ◌∷◌, ◌++◌, map, Option, Some, None, true}
use Rattle.std.specs.Option.{IfSome}
use Rattle.std.specs.Map.{lookup}
use Rattle.std.specs.Ordering.{int_eq}
use Rattle.ipc_model.specs.declared.schema.DataType.{DataType}
use Rattle.ipc_model.specs.declared.schema.Dictionary.{Dictionary}
use Rattle.ipc_model.specs.declared.schema.Field.{Field, fold-Field, roll-Field}
use Rattle.ipc_model.specs.declared.schema.Field.TheOpen.{Field-F}
use Rattle.std.specs.List.{flat_map}

-- ids, each with the columns of its dictionary
abbrev pub Listed : Type 0
Listed = List (ℤ × List Field)

-- the column of a dictionary's values: it has the name and type of the field that names the
-- dictionary, since a field's type is that of the values (Schema.fbs, table Field, `dictionary`).
-- It is nullable and has no children (Arrow Columnar Format, "Dictionary-encoded Layout")
abbrev pub values_column : List ℕ → DataType → Field
values_column name kind = roll-Field (record {
  name = name;
  nullable = true;
  kind = kind;
  dictionary = None;
  children = [];
  metadata = [];
})

-- the columns of a field's own dictionary, if it names one, without those below it
abbrev pub own_columns : {X : Type 0} → Field-F X → Option Dictionary → Listed
own_columns f (Some d) = (d.id, values_column f.name f.kind ∷ []) ∷ []
own_columns f None = []

-- the columns of a field's own dictionary, then those of its children
abbrev pub columns_step : Field-F Listed → Listed
columns_step f = own_columns f f.dictionary ++ flat_map (λ c. c) f.children

-- the columns of the dictionaries of a field and all below it, in pre-order
abbrev pub field_dictionary_columns : Field → Listed
field_dictionary_columns = fold-Field Listed columns_step

-- the columns of the dictionaries of several fields and all below them, in pre-order
abbrev pub dictionary_columns : List Field → Listed
dictionary_columns fields = flat_map (λ c. c) (map field_dictionary_columns fields)

-- the column of the dictionary with the id: that of the first field that names it
abbrev pub columns_for : Listed → ℤ → Option (List Field)
columns_for cs id = lookup (λ k. int_eq k id) cs

-- these columns are one dictionary's values, for some name and type
abbrev pub IsOneColumn : List Field → Type 0
IsOneColumn columns =
    (name : List ℕ) × (kind : DataType) × (columns ≡ values_column name kind ∷ [])

-- the columns of each dictionary that the fields of a schema name are one column
abbrev pub AreOneColumn : Type 0
AreOneColumn = (fields : List Field) (id : ℤ)
    → IfSome (columns_for (dictionary_columns fields) id) IsOneColumn
