-- The fields and batches that tables state (Schema.fbs, Message.fbs) as functions in the code's
-- order: they read under a budget and return the first fault. Laws join them to the relations
-- FieldAt and BatchAt.
use Rattle.std.specs.Prelude.{pos, ℕ, zero, suc, ◌+◌, List, [], ◌∷◌, length, Option, None}
use Rattle.std.specs.Prelude.{Some, Result, Ok, Err}
use Rattle.ipc_flat.specs.Views.{TableView, table_from, scalar, field}
use Rattle.ipc_flat.specs.Faulty.{◌>>=◌}
use Rattle.ipc_model.specs.Entries.{kind_text}
use Rattle.ipc_model.specs.declared.limits.Limits.{Limits}
use Rattle.ipc_model.specs.declared.fault.Fault.{Fault}
use Rattle.ipc_model.specs.declared.fault.Fault.TheVariants.{TooDeep, Compressed}
use Rattle.ipc_scalar.specs.Bytes.{int64}
use Rattle.ipc_meta.specs.declared.head.BatchHead.{BatchHead}
use Rattle.ipc_meta.specs.Heads.{numbers_at}
use Rattle.ipc_model.specs.declared.schema.DataType.{DataType}
use Rattle.ipc_model.specs.declared.schema.Field.{Field, roll-Field}
use Rattle.ipc_meta.specs.Budgets.{Reading, less_fields, less_text, less_pairs}
use Rattle.ipc_meta.specs.FlatFaults.{map_fault}
use Rattle.ipc_meta.specs.Tables.{text_at, flag_at, vector_at, type_at, dictionary_at}

-- what f reads of the n tables to which the offsets from p on point, one after another
unfoldable pub each : {X : Type 0} → (TableView → Reading X) → List ℕ → ℕ → ℕ → Reading (List X)
each f b p zero left = Ok ([], left)
each f b p (suc n) left = map_fault (table_from b p) >>= λ t. f t left >>= λ x.
    each f b (p + 4) n x.1
    >>= λ xs. Ok (x.0 ∷ xs.0, xs.1)

-- the text in field k; its bytes are counted
unfoldable pub text_read : TableView → ℕ → Reading (List ℕ)
text_read t k left = text_at t k >>= λ s. less_text (length s) left >>= λ l. Ok (s, l)

-- the pair that a KeyValue table states: 0 key, 1 value
unfoldable pub pair_read : TableView → Reading (List ℕ × List ℕ)
pair_read t left = text_read t 0 left >>= λ k. text_read t 1 k.1 >>= λ v. Ok ((k.0, v.0), v.1)

-- the KeyValue tables in field k; all are counted before the first is read
unfoldable pub pairs_read : TableView → ℕ → Reading (List (List ℕ × List ℕ))
pairs_read t k left = vector_at t k >>= λ es. less_pairs es.len left
    >>= each pair_read es.bytes es.at es.len

-- the type of a Field table; the bytes of its timezone are counted
unfoldable pub type_read : TableView → Reading DataType
type_read t left = type_at t >>= λ κ. less_text (kind_text κ) left >>= λ l. Ok (κ, l)

-- the Field tables in field k; all are counted before f reads the first
unfoldable pub fields_read : (TableView → Reading Field) → TableView → ℕ → Reading (List Field)
fields_read f t k left = vector_at t k >>= λ es. less_fields es.len left
    >>= each f es.bytes es.at es.len

-- the field that a Field table states, with its children, at most `depth` levels; read in the
-- code's order under a budget
unfoldable pub field_read : ℕ → TableView → Reading Field
field_read zero t left = Err TooDeep
field_read (suc depth) t left =
    text_read t 0 left >>= λ name.
    flag_at t 1 >>= λ nullable.
    type_read t name.1 >>= λ κ.
    dictionary_at t >>= λ dictionary.
    pairs_read t 6 κ.1 >>= λ pairs.
    fields_read (field_read depth) t 5 pairs.1 >>= λ children.
    Ok (
      roll-Field (record {
        name = name.0;
        nullable = nullable;
        kind = κ.0;
        dictionary = dictionary;
        children = children.0;
        metadata = pairs.0;
      }),
      children.1,
    )

-- the field that a Field table states, read as the only one of a schema under these limits
abbrev pub only_field : Limits → TableView → Result Field Fault
only_field limits t = field_read limits.depth t (record {
  fields = limits.fields;
  text = limits.text;
  pairs = limits.pairs;
}) >>= λ f. Ok f.0

-- the result, unless there is a BodyCompression table: then the fault Compressed
abbrev pub when_plain : {X : Type 0} → Option TableView → Result X Fault → Result X Fault
when_plain None r = r
when_plain (Some t) r = Err Compressed

-- what a RecordBatch table states, read in the code's order: 3 compression, 0 length, 1 nodes, 2
-- buffers
unfoldable pub batch_read : TableView → Result BatchHead Fault
batch_read t =
    map_fault (field t 3 table_from) >>= λ o. when_plain o (
    map_fault (scalar t 0 8 int64 (pos 0)) >>= λ n.
    numbers_at t 1 >>= λ nodes.
    numbers_at t 2 >>= λ buffers.
    Ok (record { length = n; nodes = nodes; buffers = buffers }))
