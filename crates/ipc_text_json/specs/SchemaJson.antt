-- The JSON text of a schema (RFC 8259), as serde_json prints it: its fields with all below them in
-- pre-order, and its pairs. The keys of each object ascend.
use Rattle.std.specs.Prelude.{ℕ, List, [], ◌∷◌, ◌++◌, map, flat_map, length, codes, decimal, Bool}
use Rattle.std.specs.Prelude.{true, false, Option, Some, None}
use Rattle.json.specs.Token.{Token}
use Rattle.json.specs.Tree.{json_tokens}
use Rattle.serde_json.specs.Data.{unsigned, Data, null, boolean, number, string, array, object}
use Rattle.serde_json.specs.Data.{item, no_members, member}
use Rattle.serde_json.specs.View.{items_of}
use Rattle.serde_json.specs.Written.{compact_text, outline}
use Rattle.ipc_model.specs.Ranges.{width}
use Rattle.ipc_model.specs.declared.schema.DataType.{DataType}
use Rattle.ipc_model.specs.declared.schema.DataType.TheVariants as t
use Rattle.ipc_model.specs.declared.schema.DateUnit.{DateUnit}
use Rattle.ipc_model.specs.declared.schema.DateUnit.TheVariants as d
use Rattle.ipc_model.specs.declared.schema.Dictionary.{Dictionary}
use Rattle.ipc_model.specs.declared.schema.Field.{Field, fold-Field}
use Rattle.ipc_model.specs.declared.schema.Field.TheOpen.{Field-F}
use Rattle.ipc_model.specs.declared.schema.Schema.{Schema}
use Rattle.ipc_model.specs.declared.schema.TimeUnit.{TimeUnit}
use Rattle.ipc_model.specs.declared.schema.TimeUnit.TheVariants as u
use Rattle.ipc_text_json.specs.RowJson.{json_number}

-- the short name of a unit of time (Schema.fbs, enum TimeUnit)
abbrev pub unit_name : TimeUnit → List ℕ
unit_name u.Second = codes "s"
unit_name u.Millisecond = codes "ms"
unit_name u.Microsecond = codes "us"
unit_name u.Nanosecond = codes "ns"

-- the short name of a unit of dates (Schema.fbs, enum DateUnit)
abbrev pub date_unit_name : DateUnit → List ℕ
date_unit_name d.Day = codes "day"
date_unit_name d.Millisecond = codes "ms"

-- the name of a type of whole numbers (Schema.fbs, table Int)
abbrev pub int_name : Bool → List ℕ
int_name true = codes "int"
int_name false = codes "uint"

-- the text, or null if there is none
abbrev pub text_or_null : Option (List ℕ) → Data
text_or_null (Some text) = string text
text_or_null None = null

-- an array of a type's name and its members
abbrev pub type_array : List ℕ → List Data → Data
type_array name members = array (item (string name) (items_of members))

-- a type as an array of its name and its members (Schema.fbs, union Type)
abbrev pub type_json : DataType → Data
type_json t.Null = type_array (codes "null") []
type_json t.Bool = type_array (codes "bool") []
type_json (t.Int bits signed) = type_array (int_name signed) (number (unsigned (width bits)) ∷ [])
type_json t.Binary = type_array (codes "binary") []
type_json t.Utf8 = type_array (codes "utf8") []
type_json (t.FixedSizeBinary size) = type_array (codes "fixed_size_binary")
    (number (unsigned size) ∷ [])
type_json (t.Date unit) = type_array (codes "date") (string (date_unit_name unit) ∷ [])
type_json (t.Time unit) = type_array (codes "time") (string (unit_name unit) ∷ [])
type_json (t.Timestamp unit zone) =
    type_array (codes "timestamp") (string (unit_name unit) ∷ text_or_null zone ∷ [])
type_json (t.Duration unit) = type_array (codes "duration") (string (unit_name unit) ∷ [])
type_json t.List = type_array (codes "list") []
type_json (t.FixedSizeList size) = type_array (codes "fixed_size_list")
    (number (unsigned size) ∷ [])
type_json t.Struct = type_array (codes "struct") []

-- a field's dictionary (Schema.fbs, table DictionaryEncoding): its id, the type of its indices, and
-- whether its values are ordered; null if there is none
abbrev pub dictionary_json : Option Dictionary → Data
dictionary_json None = null
dictionary_json (Some d) =
    array (items_of (number (json_number d.id) ∷ type_json (t.Int d.index.bits d.index.signed)
    ∷ boolean d.ordered ∷ []))

-- a pair of metadata (Schema.fbs, table KeyValue): its key and its value
abbrev pub pair_json : List ℕ × List ℕ → Data
pair_json pair = array (items_of (string pair.0 ∷ string pair.1 ∷ []))

-- pairs of metadata as an array, in their order
abbrev pub pairs_json : List (List ℕ × List ℕ) → Data
pairs_json pairs = array (items_of (map pair_json pairs))

-- a field by itself (Schema.fbs, table Field), with the number of its children
abbrev pub own_json : {A : Type 0} → Field-F A → Data
own_json f =
    object (member (codes "children") (number (unsigned (length f.children)))
    (member (codes "dictionary") (dictionary_json f.dictionary)
    (member (codes "metadata") (pairs_json f.metadata)
    (member (codes "name") (string f.name)
    (member (codes "nullable") (boolean f.nullable)
    (member (codes "type") (type_json f.kind) no_members))))))

-- a field and all below it, given the lists of its children
abbrev pub field_step : Field-F (List Data) → List Data
field_step f = own_json f ∷ flat_map (λ below. below) f.children

-- a field and all below it, in pre-order
abbrev pub field_json : Field → List Data
field_json = fold-Field (List Data) field_step

-- a schema as an object (Schema.fbs, table Schema)
abbrev pub schema_json : Schema → Data
schema_json s =
    object (member (codes "fields") (array (items_of (flat_map field_json s.fields)))
    (member (codes "metadata") (pairs_json s.metadata) no_members))

-- the text of a schema
abbrev pub schema_text : Schema → List ℕ
schema_text s = compact_text (schema_json s)

-- the text of pairs of metadata
abbrev pub pairs_text : List (List ℕ × List ℕ) → List ℕ
pairs_text pairs = compact_text (pairs_json pairs)

-- the tokens of several values, one after another
abbrev pub tokens_of : List Data → List Token
tokens_of values = flat_map (λ x. json_tokens (outline x)) values

-- the tokens of a field's first three members
abbrev pub first_tokens : {A : Type 0} → Field-F A → List Token
first_tokens f =
    Token.key (codes "children") ∷ Token.number (decimal (length f.children))
    ∷ Token.key (codes "dictionary") ∷ json_tokens (outline (dictionary_json f.dictionary))
    ++ Token.key (codes "metadata") ∷ json_tokens (outline (pairs_json f.metadata))

-- the tokens of a field's last three members
abbrev pub last_tokens : {A : Type 0} → Field-F A → List Token
last_tokens f =
    Token.key (codes "name") ∷ Token.string f.name
    ∷ Token.key (codes "nullable") ∷ Token.boolean f.nullable
    ∷ Token.key (codes "type") ∷ json_tokens (outline (type_json f.kind))
