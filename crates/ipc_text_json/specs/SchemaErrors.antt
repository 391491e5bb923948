-- Where and why a text is not the JSON of a schema (RFC 8259).
use Rattle.std.specs.Prelude.{◌≡◌, ◌≢◌, ℕ, Bool, List, Option, Some, None, ⊤, codes, flat_map, take}
use Rattle.std.specs.Prelude.{slice_get}
use Rattle.std.specs.List.{AllByRecursion}
use Rattle.serde_json.specs.Data.{Data, Items, boolean, number, string, unsigned}
use Rattle.serde_json.specs.Find.{get}
use Rattle.serde_json.specs.Read.{read}
use Rattle.ipc_model.specs.Entries.{entries}
use Rattle.ipc_model.specs.FirstFault.{IsFirstFault}
use Rattle.ipc_model.specs.Limits.{IsStandard}
use Rattle.ipc_model.specs.WellFormed.{HasGoodType}
use Rattle.ipc_model.specs.declared.limits.Limits.{Limits}
use Rattle.ipc_model.specs.declared.schema.DataType.{DataType}
use Rattle.ipc_model.specs.declared.schema.Dictionary.{Dictionary}
use Rattle.ipc_model.specs.declared.schema.Field.{Field}
use Rattle.ipc_model.specs.declared.schema.Field.TheOpen.{Field-F}
use Rattle.ipc_model.specs.declared.schema.Schema.{Schema}
use Rattle.serde_json.specs.View.{items_of}
use Rattle.ipc_text_json.specs.SchemaJson.{dictionary_json, field_json, own_json}
use Rattle.ipc_text_json.specs.SchemaJson.{pairs_json, schema_json, type_json}
use Rattle.ipc_text_json.specs.SchemaMembers.{field_object, schema_object}
use Rattle.ipc_text_json.specs.SchemaTexts.{HasWideId, IsReadable}
use Rattle.ipc_text_json.specs.declared.schema_errors.FieldPart.{FieldPart}
use Rattle.ipc_text_json.specs.declared.schema_errors.FieldPart.TheVariants as p
use Rattle.ipc_text_json.specs.declared.schema_errors.SchemaError.{SchemaError}
use Rattle.ipc_text_json.specs.declared.schema_errors.SchemaError.TheVariants as e

-- a value is the array of some pairs of strings (Schema.fbs, table KeyValue)
abbrev pub IsPairs : Data → Type 0
IsPairs value = (pairs : List (List ℕ × List ℕ)) × (value ≡ pairs_json pairs)

-- a value is a field by itself, with some number of children (Schema.fbs, table Field)
abbrev pub IsField : Data → Type 0
IsField value = (f : Field-F ⊤) × (value ≡ own_json f)

-- a value is an object with a member of this name, whose value is as stated
abbrev pub HasMember : List ℕ → Data → (Data → Type 0) → Type 0
HasMember key value Is = (v : Data) × (get key value ≡ Some v) × Is v

-- what of a value is not that of a field: it is no object of the six members of a field; or it has
-- a member that is no count of children, dictionary, pairs, name, truth value or type (Schema.fbs,
-- table Field)
abbrev pub IsBadPart : FieldPart → Data → Type 0
IsBadPart p.Keys value = (c d m n u k : Data) → value ≢ field_object c d m n u k
IsBadPart p.Children value = HasMember (codes "children") value
    (λ v. (count : ℕ) → v ≢ number (unsigned count))
IsBadPart p.Dictionary value = HasMember (codes "dictionary") value
    (λ v. (d : Option Dictionary) → HasWideId d → v ≢ dictionary_json d)
IsBadPart p.Metadata value = HasMember (codes "metadata") value (λ v. ¬ IsPairs v)
IsBadPart p.Name value = HasMember (codes "name") value (λ v. (name : List ℕ) → v ≢ string name)
IsBadPart p.Nullable value = HasMember (codes "nullable") value
    (λ v. (nullable : Bool) → v ≢ boolean nullable)
IsBadPart p.Type value = HasMember (codes "type") value
    (λ v. (kind : DataType) → HasGoodType kind → v ≢ type_json kind)

-- the first of these values that is no field is at this index, and this part of it is wrong
abbrev pub IsFirstBadEntry : List Data → ℕ → FieldPart → Type 0
IsFirstBadEntry values entry part = (value : Data) × (slice_get values entry ≡ Some value)
    × IsBadPart part value × AllByRecursion IsField (take entry values)

-- entries that are fields, of which no fields that can be read are the pre-order: the numbers of
-- children do not fit, or fields are nested too deep
abbrev pub IsBadNesting : List Data → Type 0
IsBadNesting values = AllByRecursion IsField values × ((fields : List Field)
    → AllByRecursion IsReadable (entries fields) → values ≢ flat_map field_json fields)

-- why the value of a JSON text is no schema's: it is no object of the two members of a schema; this
-- entry is no field; the pairs are none; the nesting is wrong; or the schema is refused
abbrev pub IsValueError : Data → SchemaError → Type 0
IsValueError value (e.NotJson line column) = ⊥
IsValueError value e.NotSchema =
    (fields : Items) (metadata : Data) → value ≢ schema_object fields metadata
IsValueError value (e.BadField entry part) = (values : List Data) × (metadata : Data)
    × (value ≡ schema_object (items_of values) metadata) × IsFirstBadEntry values entry part
IsValueError value e.BadMetadata = (fields : Items) × (metadata : Data)
    × (value ≡ schema_object fields metadata) × ¬ IsPairs metadata
IsValueError value e.BadNesting = (values : List Data) × (metadata : Data)
    × (value ≡ schema_object (items_of values) metadata) × IsPairs metadata × IsBadNesting values
IsValueError value (e.Refused fault) = (s : Schema) × (limits : Limits)
    × (value ≡ schema_json s) × IsStandard limits × IsFirstFault limits s fault

-- why a text is not the JSON of a schema: it is not JSON, or its value is no schema's
abbrev pub IsErrorOf : List ℕ → SchemaError → Type 0
IsErrorOf text (e.NotJson line column) = read text ≡ None
IsErrorOf text error = (value : Data) × (read text ≡ Some value) × IsValueError value error
