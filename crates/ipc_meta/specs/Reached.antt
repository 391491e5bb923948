-- Which tables the metadata of a message has (Message.fbs, Schema.fbs), and where their content is
-- ill-formed.
use Rattle.std.specs.Prelude.{◌≡◌, ℕ, ◌+◌, ◌*◌, ◌<◌, true, List, Some, Result, Ok, Err, ◌⊎◌}
use Rattle.ipc_scalar.specs.Bytes.{byte}
use Rattle.ipc_flat.specs.Flat.{field_place, text_of}
use Rattle.ipc_flat.specs.Views.{TableView, Elements, table_from, scalar, field, elements_from}
use Rattle.ipc_flat.specs.Views.{structs_from}
use Rattle.ipc_flat.specs.declared.fault.FlatFault.{FlatFault}
use Rattle.ipc_flat.specs.declared.fault.FlatFault.TheVariants.{NotUtf8}
use Rattle.ipc_model.specs.declared.fault.Fault.TheVariants.{BadFlat}
use Rattle.ipc_meta.specs.FlatFaults.{map_fault}
use Rattle.ipc_meta.specs.Tables.{vector_at, code_at, is_type_code}

-- the kinds of tables that are read; a type's table carries its code in union Type. The message of
-- a record batch has the kind `batch_message` besides `message`
pub data TableKind : Type 0 where
  message : TableKind
  batch_message : TableKind
  schema : TableKind
  column : TableKind
  key_value : TableKind
  type_value : ℕ → TableKind
  dictionary_encoding : TableKind
  index_type : TableKind
  dictionary_batch : TableKind
  record_batch : TableKind

-- what a field of a table holds: a number of this many bytes, or the offset of a table, a text, or
-- a vector of tables or of structs of 16 bytes
pub data FieldContent : Type 0 where
  number : ℕ → FieldContent
  table : FieldContent
  text : FieldContent
  tables : FieldContent
  structs : FieldContent

-- the fields that are read, each with its number in its table (Message.fbs, Schema.fbs). The values
-- of the unions MessageHeader and Type are not listed, since they are read only if their codes are
-- known
pub data ReadsField : TableKind → ℕ → FieldContent → Type 0 where
  version : ReadsField message 0 (number 2)
  header_type : ReadsField message 1 (number 1)
  body_length : ReadsField message 3 (number 8)
  batch_metadata : ReadsField batch_message 4 tables
  endianness : ReadsField schema 0 (number 2)
  fields : ReadsField schema 1 tables
  schema_metadata : ReadsField schema 2 tables
  name : ReadsField column 0 text
  nullable : ReadsField column 1 (number 1)
  type_type : ReadsField column 2 (number 1)
  dictionary : ReadsField column 4 table
  children : ReadsField column 5 tables
  field_metadata : ReadsField column 6 tables
  key : ReadsField key_value 0 text
  value : ReadsField key_value 1 text
  bit_width : ReadsField (type_value 2) 0 (number 4)
  is_signed : ReadsField (type_value 2) 1 (number 1)
  date_unit : ReadsField (type_value 8) 0 (number 2)
  time_of_day_unit : ReadsField (type_value 9) 0 (number 2)
  time_of_day_width : ReadsField (type_value 9) 1 (number 4)
  time_unit : ReadsField (type_value 10) 0 (number 2)
  timezone : ReadsField (type_value 10) 1 text
  byte_width : ReadsField (type_value 15) 0 (number 4)
  list_size : ReadsField (type_value 16) 0 (number 4)
  duration_unit : ReadsField (type_value 18) 0 (number 2)
  dictionary_id : ReadsField dictionary_encoding 0 (number 8)
  indices : ReadsField dictionary_encoding 1 table
  is_ordered : ReadsField dictionary_encoding 2 (number 1)
  index_bit_width : ReadsField index_type 0 (number 4)
  index_is_signed : ReadsField index_type 1 (number 1)
  id : ReadsField dictionary_batch 0 (number 8)
  values : ReadsField dictionary_batch 1 table
  is_delta : ReadsField dictionary_batch 2 (number 1)
  length : ReadsField record_batch 0 (number 8)
  nodes : ReadsField record_batch 1 structs
  buffers : ReadsField record_batch 2 structs
  compression : ReadsField record_batch 3 table

-- u is one of the tables to which the offsets of the vector in field k of t point (FlatBuffers
-- binary format, "Strings and Vectors")
abbrev pub Element : TableView → ℕ → TableView → Type 0
Element t k u = (es : Elements) × (i : ℕ) × (vector_at t k ≡ Ok es) × (i < es.len)
    × (table_from es.bytes (es.at + i * 4) ≡ Ok u)

-- Message.fbs, union MessageHeader: the code is that of a header which is read: Schema 1,
-- DictionaryBatch 2, RecordBatch 3
abbrev pub IsHeaderCode : ℕ → Type 0
IsHeaderCode code = (code ≡ 1) ⊎ ((code ≡ 2) ⊎ (code ≡ 3))

-- field 2 of a Message table holds the table of a header with this code in union MessageHeader
-- (Message.fbs)
abbrev pub Header : TableView → ℕ → TableView → Type 0
Header t code u = (scalar t 1 1 byte 0 ≡ Ok code) × (field t 2 table_from ≡ Ok (Some u))

-- the metadata b has the table t of this kind. The root table is the Message; every other table is
-- reached from one that b has, as its header, data, column, child, pair, type, dictionary or index
-- type
pub data HasTable (b : List ℕ) : TableKind → TableView → Type 0 where
  of_root : {t : TableView} → table_from b 0 ≡ Ok t → HasTable b message t
  of_schema : {t u : TableView} → HasTable b message t → Header t 1 u → HasTable b schema u
  of_dictionary : {t u : TableView} → HasTable b message t → Header t 2 u
      → HasTable b dictionary_batch u
  of_batch : {t u : TableView} → HasTable b message t → Header t 3 u → HasTable b record_batch u
  with_batch : {t u : TableView} → HasTable b message t → Header t 3 u → HasTable b batch_message t
  of_batch_pair : {t u : TableView} → HasTable b batch_message t → Element t 4 u
      → HasTable b key_value u
  of_values : {t u : TableView} → HasTable b dictionary_batch t → field t 1 table_from ≡ Ok (Some u)
      → HasTable b record_batch u
  of_column : {t u : TableView} → HasTable b schema t → Element t 1 u → HasTable b column u
  of_child : {t u : TableView} → HasTable b column t → Element t 5 u → HasTable b column u
  of_schema_pair : {t u : TableView} → HasTable b schema t → Element t 2 u → HasTable b key_value u
  of_field_pair : {t u : TableView} → HasTable b column t → Element t 6 u → HasTable b key_value u
  of_type : {t u : TableView} {code : ℕ} → HasTable b column t → code_at t ≡ Ok code
      → field t 3 table_from ≡ Ok (Some u) → HasTable b (type_value code) u
  of_encoding : {t u : TableView} → HasTable b column t → field t 4 table_from ≡ Ok (Some u)
      → HasTable b dictionary_encoding u
  of_index : {t u : TableView} → HasTable b dictionary_encoding t
      → field t 1 table_from ≡ Ok (Some u) → HasTable b index_type u

-- the Field table u is at this depth in the Schema table t; a column has depth 1 (Schema.fbs,
-- tables Schema, 1 fields, and Field, 5 children)
pub data IsDeep (t : TableView) : ℕ → TableView → Type 0 where
  at_top : {u : TableView} → Element t 1 u → IsDeep t 1 u
  one_deeper : {u v : TableView} {depth : ℕ} → IsDeep t depth u → Element u 5 v
      → IsDeep t (depth + 1) v

-- the result is a fault of an offset, a vtable or a range, so not of a text
-- (FlatBuffers binary format)
abbrev pub IsIllFormed : {X : Type 0} → Result X FlatFault → Type 0
IsIllFormed r = map_fault r ≡ Err BadFlat

-- field k of t, or what its offset points to, is ill-formed; for a vector of tables, also one of
-- its tables
abbrev pub HoldsIllFormed : TableView → ℕ → FieldContent → Type 0
HoldsIllFormed t k (number width) = IsIllFormed (field_place t.bytes t.at k width)
HoldsIllFormed t k table = IsIllFormed (field t k table_from)
HoldsIllFormed t k text = IsIllFormed (field t k text_of)
HoldsIllFormed t k tables =
    IsIllFormed (field t k (elements_from 4))
    ⊎ ((es : Elements) × (i : ℕ) × (vector_at t k ≡ Ok es) × (i < es.len)
    × IsIllFormed (table_from es.bytes (es.at + i * 4)))
HoldsIllFormed t k structs = IsIllFormed (field t k (structs_from 16))

-- the root table is ill-formed, or what a field that is read holds, or the value of a union whose
-- code is read
pub data HasIllFormed (b : List ℕ) : Type 0 where
  no_root : IsIllFormed (table_from b 0) → HasIllFormed b
  at_field : {kind : TableKind} {held : FieldContent} {t : TableView} {k : ℕ} → HasTable b kind t
      → ReadsField kind k held → HoldsIllFormed t k held → HasIllFormed b
  at_header : {t : TableView} {code : ℕ} → HasTable b message t → scalar t 1 1 byte 0 ≡ Ok code
      → IsHeaderCode code → IsIllFormed (field t 2 table_from) → HasIllFormed b
  at_type : {t : TableView} {code : ℕ} → HasTable b column t → code_at t ≡ Ok code
      → is_type_code code ≡ true → IsIllFormed (field t 3 table_from) → HasIllFormed b

-- a text that is read is not UTF-8 (FlatBuffers binary format, "Strings and Vectors")
pub data HasInvalidUtf8 (b : List ℕ) : Type 0 where
  at_text : {kind : TableKind} {t : TableView} {k : ℕ} → HasTable b kind t → ReadsField kind k text
      → field t k text_of ≡ Err NotUtf8 → HasInvalidUtf8 b
