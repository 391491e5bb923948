-- The columns with which the dictionaries of a schema are read (Arrow Columnar Format, "Dictionary
-- Messages": a dictionary batch is a record batch of one column).
use Rattle.std.specs.Prelude.{ℤ, Bool, true, false, ◌≡◌, ◌&&◌, List, [], ◌∷◌}
use Rattle.ipc_model.specs.declared.schema.Field.{Field}
use Rattle.ipc_model.specs.declared.schema.Schema.{Schema}
use Rattle.ipc_column.specs.Dictionaries.{has_no_children}
use Rattle.ipc_column.specs.Shapes.{field_layout}
use Rattle.ipc_dict_read.specs.DictionariesState.{DictionariesState}
use Rattle.ipc_dict_read.specs.ValuesColumns.{dictionary_columns}

-- there is one column, and it stores its values itself
abbrev pub is_alone : List Field → Bool
is_alone [] = false
is_alone (f ∷ []) = has_no_children (field_layout f)
is_alone (f ∷ g ∷ fs) = false

-- each dictionary has one column, which stores its values itself
abbrev pub are_alone : List (ℤ × List Field) → Bool
are_alone [] = true
are_alone (c ∷ cs) = is_alone c.1 && are_alone cs

-- the columns of these dictionaries are those of this schema
abbrev pub HasColumnsOf : Schema → DictionariesState → Type 0
HasColumnsOf schema dictionaries = dictionaries.columns ≡ dictionary_columns schema.fields
