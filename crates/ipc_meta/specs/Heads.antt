-- What the metadata of a message states as a whole (Message.fbs, tables Message, RecordBatch and
-- DictionaryBatch).
use Rattle.std.specs.Prelude.{◌≡◌, ℕ, zero, suc, ◌+◌, ◌≤◌, false, ℤ, pos, List, [], ◌∷◌}
use Rattle.std.specs.Prelude.{Option, None, Some, Result, Ok}
use Rattle.ipc_scalar.specs.Bytes.{byte, int16, int64}
use Rattle.ipc_flat.specs.Views.{TableView, Structs, table_from, scalar, field, structs_from}
use Rattle.ipc_flat.specs.Faulty.{◌>>=◌}
use Rattle.ipc_model.specs.declared.fault.Fault.{Fault}
use Rattle.ipc_meta.specs.declared.head.BatchHead.{BatchHead}
use Rattle.ipc_meta.specs.declared.head.Head.{Head}
use Rattle.ipc_meta.specs.declared.head.Head.TheVariants as head
use Rattle.ipc_meta.specs.FlatFaults.{map_fault}
use Rattle.ipc_meta.specs.Tables.{flag_at}
use Rattle.ipc_model.specs.Entries.{AllowPairs}
use Rattle.ipc_meta.specs.Fields.{SchemaAt, VectorAt, PairAt}
use Rattle.ipc_meta.specs.Totals.{message_pairs}
use Rattle.ipc_meta.specs.Version.{v5}
use Rattle.ipc_model.specs.declared.limits.Limits.{Limits}

-- the numbers of the n structs from p on, each of two signed 64-bit numbers (FlatBuffers binary
-- format, "Structs")
unfoldable pub number_pairs : List ℕ → ℕ → ℕ → List (ℤ × ℤ)
number_pairs b p zero = []
number_pairs b p (suc n) = (int64 b p, int64 b (p + 8)) ∷ number_pairs b (p + 16) n

-- the pairs of numbers of a vector of structs; an absent vector has none
abbrev pub struct_pairs : Option Structs → List (ℤ × ℤ)
struct_pairs None = []
struct_pairs (Some s) = number_pairs s.bytes s.at s.len

-- the structs in field k: FieldNode (length, null_count; Message.fbs) or Buffer (offset, length;
-- Schema.fbs), 16 bytes each
unfoldable pub numbers_at : TableView → ℕ → Result (List (ℤ × ℤ)) Fault
numbers_at t k = map_fault (field t k (structs_from 16)) >>= λ o. Ok (struct_pairs o)

-- Message.fbs, table RecordBatch: the table t states this head of a batch: 0 length, 1 nodes, 2
-- buffers, 3 compression (table BodyCompression, absent if nothing is compressed)
pub record BatchAt (t : TableView) (batch : BatchHead) : Type 0 where
  pub length : scalar t 0 8 int64 (pos 0) ≡ Ok batch.length
  pub nodes : numbers_at t 1 ≡ Ok batch.nodes
  pub buffers : numbers_at t 2 ≡ Ok batch.buffers
  pub uncompressed : field t 3 table_from ≡ Ok None

-- Message.fbs, table DictionaryBatch: the table t states a dictionary with this id and batch: 0 id,
-- 1 data (a RecordBatch), 2 isDelta, which is false
pub record DictionaryAt (t : TableView) (id : ℤ) (batch : BatchHead) : Type 0 where
  pub named : scalar t 0 8 int64 (pos 0) ≡ Ok id
  pub values : (d : TableView) × (field t 1 table_from ≡ Ok (Some d)) × BatchAt d batch
  pub whole : flag_at t 2 ≡ Ok false

-- Message.fbs, table Message: the root table states these pairs: 4 custom_metadata, which is read
-- in the message of a record batch; the limits hold for this message alone
pub record PairsAt (limits : Limits) (root : TableView) (pairs : List (List ℕ × List ℕ)) : Type 0
  where
    pub stated : VectorAt PairAt pairs root message_pairs
    pub allowed : AllowPairs limits pairs

-- Message.fbs, table Message: the root table has a header with this code: 1 the header's code in
-- union MessageHeader, 2 the header's table
abbrev pub IsHeader : TableView → ℕ → (TableView → Type 0) → Type 0
IsHeader root code At = (scalar root 1 1 byte 0 ≡ Ok code)
    × ((t : TableView) × (field root 2 table_from ≡ Ok (Some t)) × At t)

-- Message.fbs, union MessageHeader: the root table has this header: Schema 1, DictionaryBatch 2,
-- RecordBatch 3
abbrev pub HeaderAt : Limits → TableView → Head → Type 0
HeaderAt limits root (head.Schema s) = IsHeader root 1 (λ t. SchemaAt limits t s)
HeaderAt limits root (head.Dictionary id batch) = IsHeader root 2 (λ t. DictionaryAt t id batch)
HeaderAt limits root (head.Batch batch pairs) =
    IsHeader root 3 (λ t. BatchAt t batch) × PairsAt limits root pairs

-- Message.fbs, table Message: the metadata's root table states this head and a body of m bytes,
-- which is within the limits: 0 version (Schema.fbs, enum MetadataVersion), 3 bodyLength
pub record HeadOf (limits : Limits) (metadata : List ℕ) (head : Head) (m : ℕ) : Type 0 where
  pub root : TableView
  pub stands : table_from metadata 0 ≡ Ok root
  pub version : scalar root 0 2 int16 (pos 0) ≡ Ok v5
  pub body : scalar root 3 8 int64 (pos 0) ≡ Ok (pos m)
  pub fits : m ≤ limits.body
  pub header : HeaderAt limits root head
