-- The column of a record batch that alone has a fault (Message.fbs, table RecordBatch).
use Rattle.std.specs.Prelude.{◌≡◌, ◌≢◌, ◌⊎◌, ℕ, ◌+◌, ◌-◌, ◌<◌, List, length, take, drop}
use Rattle.ipc_model.specs.Numbering.{fault_number}
use Rattle.ipc_model.specs.declared.fault.Fault.{Fault}
use Rattle.ipc_model.specs.declared.limits.Limits.{Limits}
use Rattle.ipc_model.specs.declared.schema.Field.{Field}
use Rattle.ipc_model.specs.declared.value.Value.{Value}
use Rattle.ipc_meta.specs.declared.head.BatchHead.{BatchHead}
use Rattle.ipc_column.specs.Dictionaries.{Dictionaries}
use Rattle.ipc_column.specs.Rows.{HasCounts, RefusesParts, Rows}
use Rattle.ipc_column.specs.Shapes.{buffer_count, node_count, shape_of}

-- the elements from place a on, to before place b
abbrev pub sublist : {A : Type 0} → List A → ℕ → ℕ → List A
sublist xs a b = take (b - a) (drop a xs)

-- column i alone
abbrev pub column : List Field → ℕ → List Field
column fields i = sublist fields i (i + 1)

-- how many nodes the columns before column i have, descendants included
abbrev pub nodes_before : List Field → ℕ → ℕ
nodes_before fields i = node_count (shape_of (take i fields))

-- how many buffers the columns before column i have, descendants included
abbrev pub buffers_before : List Field → ℕ → ℕ
buffers_before fields i = buffer_count (shape_of (take i fields))

-- the metadata of a batch of column i alone: the length of the batch, and the column's nodes and
-- buffers
abbrev pub column_head : List Field → BatchHead → ℕ → BatchHead
column_head fields head i = record {
  length = head.length;
  nodes = sublist head.nodes (nodes_before fields i) (nodes_before fields (i + 1));
  buffers = sublist head.buffers (buffers_before fields i) (buffers_before fields (i + 1));
}

-- the batch is refused for a fault with the number of this one
abbrev pub IsRefusedAs : Limits → Fault → Dictionaries → List Field → BatchHead → List ℕ → Type 0
IsRefusedAs limits fault m fields head body = (other : Fault)
    × (fault_number other ≡ fault_number fault) × RefusesParts limits other m fields head body

-- the batch has rows, or is refused for a fault with another number
abbrev pub PassesAlone : Limits → Fault → Dictionaries → List Field → BatchHead → List ℕ → Type 0
PassesAlone limits fault m fields head body =
    ((rows : List (List Value)) × Rows limits m fields head body rows)
    ⊎ ((other : Fault) × (fault_number other ≢ fault_number fault)
    × RefusesParts limits other m fields head body)

-- column i of a batch is the first that alone is refused for this fault, with the whole body
pub record FirstAlone (limits : Limits) (fault : Fault) (m : Dictionaries) (fields : List Field)
    (head : BatchHead) (body : List ℕ) (i : ℕ) : Type 0 where
  pub counts : HasCounts fields head
  pub refused : IsRefusedAs limits fault m (column fields i) (column_head fields head i) body
  pub first : (j : ℕ) → j < i
      → PassesAlone limits fault m (column fields j) (column_head fields head j) body

-- no column of a batch with the right numbers of nodes and buffers is alone refused for this fault
abbrev pub NoneAlone : Limits → Fault → Dictionaries → List Field → BatchHead → List ℕ → Type 0
NoneAlone limits fault m fields head body = HasCounts fields head → (j : ℕ) → j < length fields
    → PassesAlone limits fault m (column fields j) (column_head fields head j) body
