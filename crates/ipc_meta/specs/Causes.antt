-- Why metadata is refused: what is true of it for each fault that is returned (Message.fbs,
-- Schema.fbs).
use Rattle.std.specs.Prelude.{◌≡◌, ◌≢◌, ℕ, ◌<◌, ◌⊎◌, ℤ, true, false, pos, int_lt, List, None, Some}
use Rattle.std.specs.Prelude.{Result, Ok}
use Rattle.ipc_flat.specs.declared.fault.FlatFault.{FlatFault}
use Rattle.ipc_scalar.specs.Bytes.{byte, int16, int32, int64}
use Rattle.ipc_flat.specs.Views.{TableView, Elements, table_from, scalar, field}
use Rattle.ipc_model.specs.declared.fault.Fault.{Fault}
use Rattle.ipc_model.specs.declared.fault.Fault.TheVariants as f
use Rattle.ipc_model.specs.declared.schema.DataType.{DataType}
use Rattle.ipc_model.specs.declared.schema.TimeUnit.{TimeUnit}
use Rattle.ipc_model.specs.Layouts.{time_bits}
use Rattle.ipc_model.specs.Ranges.{width}
use Rattle.ipc_model.specs.declared.schema.Dictionary.{Dictionary}
use Rattle.ipc_model.specs.WellFormed.{HasFittingChildren, IsLeaf}
use Rattle.ipc_meta.specs.Tables.{bits_of, unit_of, flag_at, vector_at, code_at, is_type_code}
use Rattle.ipc_meta.specs.Fields.{IsEncodedAs}
use Rattle.ipc_meta.specs.Types.{TypeAt}
use Rattle.ipc_meta.specs.Totals.{total_fields, total_text, total_pairs, sum_in, count_in}
use Rattle.ipc_meta.specs.Totals.{pair_text_in, message_pairs}
use Rattle.ipc_meta.specs.Reached.{TableKind, HasTable, IsDeep, HasIllFormed, HasInvalidUtf8}
use Rattle.ipc_meta.specs.Reached.{message}
use Rattle.ipc_meta.specs.Reached.{batch_message}
use Rattle.ipc_meta.specs.Reached.{schema, column, type_value, index_type, dictionary_batch}
use Rattle.ipc_meta.specs.Reached.{record_batch}
use Rattle.ipc_meta.specs.Version.{v5}
use Rattle.ipc_model.specs.declared.limits.Limits.{Limits}

-- the metadata has a table of this kind for which P holds
abbrev pub HasTableWith : List ℕ → TableKind → (TableView → Type 0) → Type 0
HasTableWith b kind P = (t : TableView) × HasTable b kind t × P t

-- the result is a value for which P holds
abbrev pub IsValueWith : {X : Type 0} → Result X FlatFault → (X → Type 0) → Type 0
IsValueWith {X} r P = (x : X) × (r ≡ Ok x) × P x

-- the header's code is none of a stream's (Message.fbs, union MessageHeader), the header is absent,
-- or a dictionary batch has no data
pub data HasNoHeader (b : List ℕ) : Type 0 where
  other : HasTableWith b message (λ t. IsValueWith (scalar t 1 1 byte 0)
      (λ code. (code ≢ 1) × (code ≢ 2) × (code ≢ 3))) → HasNoHeader b
  absent : HasTableWith b message (λ t. field t 2 table_from ≡ Ok None) → HasNoHeader b
  no_data : HasTableWith b dictionary_batch (λ t. field t 1 table_from ≡ Ok None) → HasNoHeader b

-- a type's table, with this code in union Type, has a width, a size or a unit that no type has; or
-- a time has another width than its unit needs (Schema.fbs, tables Int, Date, Time, Timestamp,
-- FixedSizeBinary, FixedSizeList and Duration; Null, Binary, Utf8, Bool, List and Struct_ have no
-- fields)
pub data IsInvalidTypeTable : ℕ → TableView → Type 0 where
  other_width : {v : TableView} → IsValueWith (scalar v 0 4 int32 (pos 0))
      (λ width. bits_of width ≡ None)
      → IsInvalidTypeTable 2 v
  other_date_unit : {v : TableView}
      → IsValueWith (scalar v 0 2 int16 (pos 1)) (λ unit. (unit ≢ pos 0) × (unit ≢ pos 1))
      → IsInvalidTypeTable 8 v
  other_time_of_day_unit : {v : TableView}
      → IsValueWith (scalar v 0 2 int16 (pos 1)) (λ unit. unit_of unit ≡ None)
      → IsInvalidTypeTable 9 v
  other_time_of_day_width : {v : TableView} {unit : TimeUnit}
      → IsValueWith (scalar v 0 2 int16 (pos 1)) (λ code. unit_of code ≡ Some unit)
      → IsValueWith (scalar v 1 4 int32 (pos 32)) (λ bits. bits ≢ pos (width (time_bits unit)))
      → IsInvalidTypeTable 9 v
  other_time_unit : {v : TableView} → IsValueWith (scalar v 0 2 int16 (pos 0))
      (λ unit. unit_of unit ≡ None)
      → IsInvalidTypeTable 10 v
  negative_width : {v : TableView}
      → IsValueWith (scalar v 0 4 int32 (pos 0)) (λ width. int_lt width (pos 0) ≡ true)
      → IsInvalidTypeTable 15 v
  negative_size : {v : TableView}
      → IsValueWith (scalar v 0 4 int32 (pos 0)) (λ size. int_lt size (pos 0) ≡ true)
      → IsInvalidTypeTable 16 v
  other_duration_unit : {v : TableView}
      → IsValueWith (scalar v 0 2 int16 (pos 1)) (λ unit. unit_of unit ≡ None)
      → IsInvalidTypeTable 18 v

-- a field has the code of a type that is read, but no type table, or a type table that no type has
pub data HasBadType (b : List ℕ) : Type 0 where
  no_table : {code : ℕ} → HasTableWith b column
      (λ t. (code_at t ≡ Ok code) × (is_type_code code ≡ true) × (field t 3 table_from ≡ Ok None))
      → HasBadType b
  no_type : {code : ℕ} → HasTableWith b (type_value code) (IsInvalidTypeTable code) → HasBadType b

-- a field has a number of children that its type does not allow (Schema.fbs, table Field, 5
-- children)
abbrev pub HasBadChildren : List ℕ → Type 0
HasBadChildren b = HasTableWith b column (λ t. (κ : DataType) × (es : Elements) × TypeAt κ t
    × (vector_at t 5 ≡ Ok es) × (HasFittingChildren κ es.len → ⊥))

-- some field has values of this type in the dictionary with this id (Schema.fbs, table
-- DictionaryEncoding)
abbrev pub HasDictionaryColumn : List ℕ → ℤ → DataType → Type 0
HasDictionaryColumn b id κ = HasTableWith b column (λ t. TypeAt κ t
    × ((d : Dictionary) × IsEncodedAs (Some d) t × (d.id ≡ id)))

-- the texts or the pairs of a schema, or of the message of a record batch, are above their limits
-- (Schema.fbs, table KeyValue)
pub data HasExcessText (limits : Limits) (b : List ℕ) : Type 0 where
  in_schema : HasTableWith b schema
      (λ t. (limits.text < total_text limits t) ⊎ (limits.pairs < total_pairs limits t))
      → HasExcessText limits b
  in_batch : HasTableWith b batch_message (λ t. (limits.text < sum_in pair_text_in t message_pairs)
      ⊎ (limits.pairs < count_in t message_pairs)) → HasExcessText limits b

-- what is true of the metadata if this fault is returned; any other fault has no cause in it
abbrev pub Cause : Limits → List ℕ → Fault → Type 0
Cause limits b f.BadFlat = HasIllFormed b
Cause limits b f.BadVersion = HasTableWith b message (λ t.
    IsValueWith (scalar t 0 2 int16 (pos 0)) (λ v. v ≢ v5))
Cause limits b f.BadHeader = HasNoHeader b
Cause limits b f.BadBodyLength = HasTableWith b message
    (λ t. IsValueWith (scalar t 3 8 int64 (pos 0)) (λ n. int_lt n (pos 0) ≡ true))
Cause limits b f.BodyTooLong = HasTableWith b message
    (λ t. IsValueWith (scalar t 3 8 int64 (pos 0)) (λ n. int_lt (pos limits.body) n ≡ true))
Cause limits b f.BigEndian = HasTableWith b schema (λ t.
    IsValueWith (scalar t 0 2 int16 (pos 0)) (λ e. e ≢ pos 0))
Cause limits b (f.UnsupportedType code) =
    HasTableWith b column (λ t. (code_at t ≡ Ok code) × (is_type_code code ≡ false))
Cause limits b f.BadType = HasBadType b
Cause limits b f.BadChildren = HasBadChildren b
Cause limits b f.NameNotUtf8 = HasInvalidUtf8 b
Cause limits b f.TooManyFields = HasTableWith b schema (λ t. limits.fields < total_fields limits t)
Cause limits b f.TooDeep = HasTableWith b schema
    (λ t. (u : TableView) × (depth : ℕ) × (limits.depth < depth) × IsDeep t depth u)
Cause limits b f.TooMuchText = HasExcessText limits b
Cause limits b f.DictionaryConflict =
    (id : ℤ) × (κ : DataType) × (μ : DataType) × HasDictionaryColumn b id κ
    × HasDictionaryColumn b id μ × (κ ≢ μ)
Cause limits b f.NestedDictionary =
    (id : ℤ) × (κ : DataType) × HasDictionaryColumn b id κ × (IsLeaf κ → ⊥)
Cause limits b f.BadIndexType = HasTableWith b index_type
    (λ t. IsValueWith (scalar t 0 4 int32 (pos 0)) (λ width. bits_of width ≡ None))
Cause limits b f.Compressed = HasTableWith b record_batch
    (λ t. (c : TableView) × (field t 3 table_from ≡ Ok (Some c)))
Cause limits b f.DeltaDictionary = HasTableWith b dictionary_batch (λ t. flag_at t 2 ≡ Ok true)
Cause limits b fault = ⊥
