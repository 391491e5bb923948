-- The trees that are written for schemas and batches: for each table the fields that are present,
-- their numbers and their content. A field that is not in the tree is absent (Message.fbs,
-- Schema.fbs).
use Rattle.std.specs.Prelude.{ℕ, ℤ, pos, Bool, false, if◌then◌else◌, List, [], ◌∷◌, map, Option}
use Rattle.std.specs.Prelude.{None, Some}
use Rattle.std.specs.Int.{Width, w16, w32, w64, cast_signed}
use Rattle.ipc_build.specs.declared.tree.Slot.{Slot}
use Rattle.ipc_build.specs.Trees.{Tree, none, field, byte, signed, string, pairs, table, tables}
use Rattle.ipc_build.specs.Trees.{node, tables_of}
use Rattle.ipc_model.specs.Layouts.{time_bits}
use Rattle.ipc_model.specs.Ranges.{width}
use Rattle.ipc_model.specs.TypeCodes.{type_code}
use Rattle.ipc_model.specs.declared.schema.IntBits.{IntBits}
use Rattle.ipc_model.specs.declared.schema.TimeUnit.{TimeUnit}
use Rattle.ipc_model.specs.declared.schema.DataType.{DataType}
use Rattle.ipc_model.specs.declared.schema.DataType.TheVariants as t
use Rattle.ipc_model.specs.declared.schema.Dictionary.{Dictionary}
use Rattle.ipc_model.specs.declared.schema.Field.{Field, fold-Field}
use Rattle.ipc_model.specs.declared.schema.Field.TheOpen.{Field-F}
use Rattle.ipc_model.specs.declared.schema.Schema.{Schema}
use Rattle.ipc_meta.specs.declared.head.BatchHead.{BatchHead}
use Rattle.ipc_meta.specs.Types.{date_code, time_code}
use Rattle.ipc_meta.specs.Version.{v5}

-- these fields, followed by the fields `rest`
abbrev pub fields_then : List (ℕ × Slot) → Tree → Tree
fields_then [] rest = rest
fields_then (x ∷ xs) rest = field x.0 (node x.1).0 (node x.1).1 (fields_then xs rest)

-- field k, which is this byte, followed by the fields `rest`
abbrev pub with_byte : ℕ → ℕ → Tree → Tree
with_byte k x rest = field k (byte x) none rest

-- field k, which is this signed number, followed by the fields `rest`
abbrev pub with_signed : ℕ → Width → ℤ → Tree → Tree
with_signed k w z rest = field k (signed w z) none rest

-- field k, which is a vector of structs of two signed 64-bit numbers, followed by the fields `rest`
abbrev pub with_numbers : ℕ → List (ℤ × ℤ) → Tree → Tree
with_numbers k xs rest = field k (pairs xs) none rest

-- field k, which is this text, followed by the fields `rest`
abbrev pub with_text : ℕ → List ℕ → Tree → Tree
with_text k s rest = field k (string s) none rest

-- field k, which is this table, followed by the fields `rest`
abbrev pub with_table : ℕ → Tree → Tree → Tree
with_table k below rest = field k table below rest

-- field k, which is a vector of these tables, followed by the fields `rest`
abbrev pub with_tables : ℕ → List Tree → Tree → Tree
with_tables k ts rest = field k tables (tables_of ts) rest

-- true is 1, and false is 0
abbrev pub flag : Bool → ℕ
flag b = if b then 1 else 0

-- Schema.fbs, table KeyValue: the table of a pair: 0 key, 1 value
abbrev pub pair_tree : List ℕ × List ℕ → Tree
pair_tree p = with_text 0 p.0 (with_text 1 p.1 none)

-- field k, which is a vector of these pairs and the last field; it is absent if there are none
abbrev pub with_pairs : ℕ → List (List ℕ × List ℕ) → Tree
with_pairs k [] = none
with_pairs k (p ∷ ps) = with_tables k (map pair_tree (p ∷ ps)) none

-- Schema.fbs, table Int: the table of an integer type: 0 bitWidth, 1 is_signed
abbrev pub int_tree : IntBits → Bool → Tree
int_tree bits sign = with_signed 0 w32 (pos (width bits)) (with_byte 1 (flag sign) none)

-- Schema.fbs, table Timestamp, 1 timezone: the field is present if there is a timezone
abbrev pub with_timezone : Option (List ℕ) → Tree
with_timezone None = none
with_timezone (Some zone) = with_text 1 zone none

-- Schema.fbs, table Time: the table of a time's type: 0 unit, 1 bitWidth
abbrev pub time_tree : TimeUnit → Tree
time_tree unit =
    with_signed 0 w16 (time_code unit) (with_signed 1 w32 (pos (width (time_bits unit))) none)

-- Schema.fbs, union Type: the table of a type, with all its fields
abbrev pub type_tree : DataType → Tree
type_tree (t.Int bits sign) = int_tree bits sign
type_tree (t.FixedSizeBinary n) = with_signed 0 w32 (cast_signed w32 n) none
type_tree (t.FixedSizeList n) = with_signed 0 w32 (cast_signed w32 n) none
type_tree (t.Date unit) = with_signed 0 w16 (date_code unit) none
type_tree (t.Timestamp unit timezone) = with_signed 0 w16 (time_code unit) (with_timezone timezone)
type_tree (t.Time unit) = time_tree unit
type_tree (t.Duration unit) = with_signed 0 w16 (time_code unit) none
type_tree t.Null = none
type_tree t.Bool = none
type_tree t.Binary = none
type_tree t.Utf8 = none
type_tree t.List = none
type_tree t.Struct = none

-- Schema.fbs, table DictionaryEncoding: the table of a dictionary: 0 id, 1 indexType, 2 isOrdered
abbrev pub dictionary_tree : Dictionary → Tree
dictionary_tree d = with_signed 0 w64 d.id
    (with_table 1 (int_tree d.index.bits d.index.signed) (with_byte 2 (flag d.ordered) none))

-- Schema.fbs, table Field, 4 dictionary: the field is present if the field has a dictionary
abbrev pub with_dictionary : Option Dictionary → Tree → Tree
with_dictionary None rest = rest
with_dictionary (Some d) rest = with_table 4 (dictionary_tree d) rest

-- Schema.fbs, table Field: the table of a field, given its children's: 0 name, 1 nullable, 2 and 3
-- type, 4 dictionary, 5 children, 6 custom_metadata
abbrev pub field_step : Field-F Tree → Tree
field_step f =
    with_text 0 f.name (with_byte 1 (flag f.nullable)
    (with_byte 2 (type_code f.kind) (with_table 3 (type_tree f.kind)
    (with_dictionary f.dictionary (with_tables 5 f.children (with_pairs 6 f.metadata))))))

-- the table of a field, with its children's (Schema.fbs, table Field)
abbrev pub field_tree : Field → Tree
field_tree = fold-Field Tree field_step

-- Schema.fbs, table Schema: the table of a schema: 1 fields, 2 custom_metadata; its endianness is
-- Little, the default
abbrev pub schema_tree : Schema → Tree
schema_tree s = with_tables 1 (map field_tree s.fields) (with_pairs 2 s.metadata)

-- Message.fbs, table RecordBatch: the table of a record batch: 0 length, 1 nodes, 2 buffers
abbrev pub batch_tree : BatchHead → Tree
batch_tree b = with_signed 0 w64 b.length (with_numbers 1 b.nodes (with_numbers 2 b.buffers none))

-- Message.fbs, table DictionaryBatch: the table of a dictionary batch: 0 id, 1 data, 2 isDelta,
-- which is false
abbrev pub dictionary_batch_tree : ℤ → BatchHead → Tree
dictionary_batch_tree id b =
    with_signed 0 w64 id (with_table 1 (batch_tree b) (with_byte 2 (flag false) none))

-- Message.fbs, table Message: the root table of a message: 0 version, 1 and 2 header, 3 bodyLength,
-- 4 custom_metadata
abbrev pub message_tree : ℕ → Tree → ℕ → List (List ℕ × List ℕ) → Tree
message_tree code header m ps = with_signed 0 w16 v5
    (with_byte 1 code (with_table 2 header (with_signed 3 w64 (pos m) (with_pairs 4 ps))))

-- Message.fbs, union MessageHeader: the root table of a schema's message; Schema is 1. The message
-- has no body and no pairs
abbrev pub schema_message : Schema → Tree
schema_message s = message_tree 1 (schema_tree s) 0 []

-- Message.fbs, union MessageHeader: the root table of a record batch's message; RecordBatch is 3
abbrev pub batch_message : BatchHead → List (List ℕ × List ℕ) → ℕ → Tree
batch_message b ps m = message_tree 3 (batch_tree b) m ps

-- Message.fbs, union MessageHeader: the root table of a dictionary batch's message; DictionaryBatch
-- is 2. The message has no pairs
abbrev pub dictionary_message : ℤ → BatchHead → ℕ → Tree
dictionary_message id b m = message_tree 2 (dictionary_batch_tree id b) m []
