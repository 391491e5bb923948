-- Which fields and schemas the tables of the metadata state (Schema.fbs, tables Field and Schema):
-- relations between whole values and tables, without a reading order.
use Rattle.std.specs.Prelude.{◌≡◌, ℕ, ◌+◌, ◌-◌, ◌<◌, pos, List, [], ◌∷◌, Ok, Option, None, Some}
use Rattle.ipc_scalar.specs.Bytes.{int16, int64}
use Rattle.ipc_flat.specs.Views.{TableView, Elements, table_from, scalar, field}
use Rattle.ipc_model.specs.WellFormed.{WellFormed}
use Rattle.ipc_model.specs.declared.schema.Field.{Field, rec-Field}
use Rattle.ipc_model.specs.declared.schema.Field.TheOpen.{Field-F}
use Rattle.ipc_model.specs.declared.schema.Dictionary.{Dictionary}
use Rattle.ipc_model.specs.declared.schema.Schema.{Schema}
use Rattle.ipc_meta.specs.Tables.{text_at, flag_at, vector_at, index_at}
use Rattle.ipc_meta.specs.Types.{TypeAt}
use Rattle.ipc_model.specs.declared.limits.Limits.{Limits}

module _ {X : Type 0} (At : X → TableView → Type 0) where
  -- the n offsets from p on point to tables that state these values, in order (FlatBuffers binary
  -- format, "Strings and Vectors")
  abbrev pub TablesAt : List ℕ → ℕ → ℕ → List X → Type 0
  TablesAt b p n [] = n ≡ 0
  TablesAt b p n (x ∷ xs) = (t : TableView) × (0 < n) × (table_from b p ≡ Ok t) × At x t
      × TablesAt b (p + 4) (n - 1) xs

  -- field k of t holds a vector of tables that state these values; an absent vector states none
  abbrev pub VectorAt : List X → TableView → ℕ → Type 0
  VectorAt xs t k = (es : Elements) × (vector_at t k ≡ Ok es) × TablesAt es.bytes es.at es.len xs

-- Schema.fbs, table KeyValue: the table t states this pair: 0 key, 1 value
abbrev pub PairAt : List ℕ × List ℕ → TableView → Type 0
PairAt p t = (text_at t 0 ≡ Ok p.0) × (text_at t 1 ≡ Ok p.1)

-- Schema.fbs, table DictionaryEncoding: the table t states this dictionary: 0 id, 1 indexType, 2
-- isOrdered
pub record EncodingAt (t : TableView) (d : Dictionary) : Type 0 where
  pub id : scalar t 0 8 int64 (pos 0) ≡ Ok d.id
  pub index : index_at t ≡ Ok d.index
  pub ordered : flag_at t 2 ≡ Ok d.ordered

-- Schema.fbs, table Field: the table f states this dictionary, or none: 4 dictionary
abbrev pub IsEncodedAs : Option Dictionary → TableView → Type 0
IsEncodedAs None f = field f 4 table_from ≡ Ok None
IsEncodedAs (Some d) f = (t : TableView) × (field f 4 table_from ≡ Ok (Some t)) × EncodingAt t d

-- Schema.fbs, table Field: the table t states this field: 0 name, 1 nullable, 2 and 3 type, 4
-- dictionary, 5 children, 6 custom_metadata
abbrev pub field_step : (X : Type 0) → (X → Field) → (X → TableView → Type 0) → Field-F X
    → TableView → Type 0
field_step X field At f t =
    (text_at t 0 ≡ Ok f.name) × (flag_at t 1 ≡ Ok f.nullable) × TypeAt f.kind t
    × IsEncodedAs f.dictionary t
    × VectorAt PairAt f.metadata t 6 × VectorAt At f.children t 5

-- the Field table t states this field, with all below it
abbrev pub FieldAt : Field → TableView → Type 0
FieldAt = rec-Field (TableView → Type 0) field_step

-- Schema.fbs, table Schema: the table t states this well formed schema: 0 endianness (enum
-- Endianness, Little is 0), 1 fields, 2 custom_metadata
pub record SchemaAt (limits : Limits) (t : TableView) (s : Schema) : Type 0 where
  pub little_endian : scalar t 0 2 int16 (pos 0) ≡ Ok (pos 0)
  pub fields : VectorAt FieldAt s.fields t 1
  pub pairs : VectorAt PairAt s.metadata t 2
  pub well_formed : WellFormed limits s
