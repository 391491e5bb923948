-- The JSON text of a row (RFC 8259), as serde_json prints it: an array of the row's values, or an
-- object with the columns' names as keys.
use Rattle.std.specs.Prelude.{ℕ, ℤ, pos, negsuc, List, [], ◌∷◌, map, Option, Some, None}
use Rattle.hex.specs.Hex.{encode_lower}
use Rattle.serde_json.specs.Data.{Num, unsigned, negative, Data, null, boolean, number, string}
use Rattle.serde_json.specs.Data.{array, object}
use Rattle.serde_json.specs.Data.{Items, no_items, item, Members, no_members, member}
use Rattle.serde_json.specs.Written.{compact_text}
use Rattle.ipc_model.specs.declared.schema.DataType.{DataType}
use Rattle.ipc_model.specs.declared.schema.Field.{Field, fold-Field}
use Rattle.ipc_model.specs.declared.schema.Field.TheOpen.{Field-F}
use Rattle.ipc_model.specs.declared.value.Value.{Value, out-Value}
use Rattle.ipc_model.specs.declared.value.Value.TheOpen.{Value-F}
use Rattle.ipc_text_temporal.specs.Temporals.{temporal_text}
use Rattle.ipc_text_json.specs.declared.row.RowShape.{RowShape}
use Rattle.ipc_text_json.specs.declared.row.RowShape.TheVariants.{Array, Object}

-- a number as JSON represents it
abbrev pub json_number : ℤ → Num
json_number (pos n) = unsigned n
json_number (negsuc n) = negative (negsuc n)

-- the text, if there is one, and else the number
abbrev pub text_or_number : Option (List ℕ) → ℤ → Data
text_or_number (Some text) z = string text
text_or_number None z = number (json_number z)

-- a signed number of this type: dates, times and points in time as their text, if they have one
abbrev pub int_json : DataType → ℤ → Data
int_json kind z = text_or_number (temporal_text kind z) z

-- a field as it is printed: its name, and the data of each of its values
pub record Printed : Type 0 where
  pub name : List ℕ
  pub json : Value → Data

-- values that are all printed in the same way, as those of a list are
abbrev pub items_json : (Value → Data) → List Value → Items
items_json json [] = no_items
items_json json (v ∷ vs) = item (json v) (items_json json vs)

-- values, each printed in the way of the field at its index
abbrev pub each_json : List Printed → List Value → Items
each_json [] vs = no_items
each_json (f ∷ fs) [] = no_items
each_json (f ∷ fs) (v ∷ vs) = item (f.json v) (each_json fs vs)

-- values, each with the name of the field at its index, and printed in its way
abbrev pub members_json : List Printed → List Value → Members
members_json [] vs = no_members
members_json (f ∷ fs) [] = no_members
members_json (f ∷ fs) (v ∷ vs) = member f.name (f.json v) (members_json fs vs)

-- the values of a row or a struct, given its fields: an array, or an object with the fields' names
-- as keys, in their order and as they are
abbrev pub values_json : RowShape → List Printed → List Value → Data
values_json Array fs vs = array (each_json fs vs)
values_json Object fs vs = object (members_json fs vs)

-- the values of a list, printed in the way of its field's one child
abbrev pub list_json : List Printed → List Value → Items
list_json [] vs = no_items
list_json (f ∷ fs) vs = items_json f.json vs

-- a value of a field of this type, given how its children are printed: bytes as lower-case
-- hexadecimal text, a list as an array, and a struct in the shape of a row
abbrev pub value_json : RowShape → DataType → List Printed → Value-F Value → Data
value_json shape kind fs Value-F.Null = null
value_json shape kind fs (Value-F.Bool truth) = boolean truth
value_json shape kind fs (Value-F.Int z) = int_json kind z
value_json shape kind fs (Value-F.UInt n) = number (unsigned n)
value_json shape kind fs (Value-F.Bytes bytes) = string (encode_lower bytes)
value_json shape kind fs (Value-F.Text text) = string text
value_json shape kind fs (Value-F.List vs) = array (list_json fs vs)
value_json shape kind fs (Value-F.Struct vs) = values_json shape fs vs

-- a field as it is printed, given its children as they are
abbrev pub field_json : RowShape → Field-F Printed → Printed
field_json shape f = record {
  name = f.name;
  json = λ v. value_json shape f.kind f.children (out-Value v);
}

-- a field as it is printed
abbrev pub row_field : RowShape → Field → Printed
row_field shape = fold-Field Printed (field_json shape)

-- a value of a field
abbrev pub cell_json : RowShape → Field → Value → Data
cell_json shape field = (row_field shape field).json

-- a row: an array of its values, or an object with the names of its columns as keys
abbrev pub row_json : RowShape → List Field → List Value → Data
row_json shape fields row = values_json shape (map (row_field shape) fields) row

-- the text of a row
abbrev pub row_text : RowShape → List Field → List Value → List ℕ
row_text shape fields row = compact_text (row_json shape fields row)
