-- When a record batch's head and body state rows, and what a refusal states about them
-- (Arrow Columnar Format, "RecordBatch message").
use Rattle.std.specs.Prelude.{◌≡◌, ℕ, ◌<◌, pos, List, [], length, ⊤}
use Rattle.std.specs.Prelude.{slice_index_or}
use Rattle.std.specs.List.{All}
use Rattle.ipc_model.specs.declared.fault.Fault.{Fault}
use Rattle.ipc_model.specs.declared.fault.Fault.TheVariants as fault
use Rattle.ipc_column.specs.Columns.{Each}
use Rattle.ipc_column.specs.Dictionaries.{Dictionaries}
use Rattle.ipc_model.specs.declared.schema.Field.{Field}
use Rattle.ipc_model.specs.declared.value.Value.{Value}
use Rattle.ipc_meta.specs.declared.head.BatchHead.{BatchHead}
use Rattle.ipc_column.specs.Shapes.{field_columns}
use Rattle.ipc_column.specs.Values.{row}
use Rattle.ipc_column.specs.checks.Rules.{HasNodes, HasBuffers, HasLengths, HasRanges, HasBytes}
use Rattle.ipc_column.specs.checks.Rules.{HasNullCounts, HasOrder, HasTexts, HasIndices}
use Rattle.ipc_column.specs.checks.Rules.{IsSlotCount, IsFieldNode, HasWholeBitmap, CountsNulls}
use Rattle.ipc_column.specs.checks.Rules.{HoldOffsets, HasOffsets}
use Rattle.ipc_model.specs.declared.limits.Limits.{Limits}

-- the head and the body are a record batch of the fields (Arrow Columnar Format, "RecordBatch
-- message") under the dictionaries in force, and these are its rows: row i has the value of slot i
-- of each column
pub record Rows (limits : Limits) (dictionaries : Dictionaries) (fields : List Field)
    (head : BatchHead) (body : List ℕ) (rows : List (List Value)) : Type 0 where
  -- the head has the nodes and the buffers of the fields, and no others
  pub nodes : HasNodes fields head
  pub buffers : HasBuffers fields head
  -- the lengths are in their bounds and agree, and the buffers are inside the body
  pub lengths : HasLengths limits dictionaries fields head body
  pub ranges : HasRanges head body
  -- the buffers are long enough, and the null counts are right
  pub bytes : HasBytes dictionaries fields head body
  pub null_counts : HasNullCounts dictionaries fields head body
  -- the offsets are in order, the texts are UTF-8, and the indices are those of values
  pub order : HasOrder dictionaries fields head body
  pub texts : HasTexts dictionaries fields head body
  pub indices : HasIndices dictionaries fields head body
  -- there are as many rows as the head's length, and each has its values
  pub count : head.length ≡ pos (length rows)
  pub values : (i : ℕ) → i < length rows
      → slice_index_or rows i [] ≡ row (field_columns dictionaries fields head body) i

-- each field has its node and its buffers
pub record HasCounts (fields : List Field) (head : BatchHead) : Type 0 where
  pub nodes : HasNodes fields head
  pub buffers : HasBuffers fields head

-- the counts hold, and the numbers of the head are in their bounds: the lengths, the null counts,
-- and the ranges of the buffers, which are inside the body
pub record HasParts (limits : Limits) (fields : List Field) (head : BatchHead)
    (body : List ℕ) : Type 0 where
  pub counts : HasCounts fields head
  pub batch : IsSlotCount limits head.length
  pub bounds : All (IsFieldNode limits) head.nodes
  pub ranges : HasRanges head body

-- the fault's cause is true of a head and a body. A bad node or range needs the right counts; a
-- fault in a column needs all numbers of the head in their bounds. A wrong null count needs a whole
-- bitmap, and offsets out of order have to be complete; a bad text or index needs long enough
-- buffers and offsets in order. Out of memory has no cause in them, and no other fault is returned
abbrev pub RefusesParts : Limits → Fault → Dictionaries → List Field → BatchHead → List ℕ → Type 0
RefusesParts limits fault.WrongNodeCount m fields head body = ¬ HasNodes fields head
RefusesParts limits fault.WrongBufferCount m fields head body = ¬ HasBuffers fields head
RefusesParts limits fault.BadNode m fields head body = HasCounts fields head
    × ¬ HasLengths limits m fields head body
RefusesParts limits fault.BufferOutOfBody m fields head body = HasCounts fields head
    × ¬ HasRanges head body
RefusesParts limits fault.BufferTooShort m fields head body =
    HasParts limits fields head body × ¬ HasBytes m fields head body
RefusesParts limits fault.BadNullCount m fields head body = HasParts limits fields head body
    × ¬ Each (λ c children. HasWholeBitmap c → CountsNulls c) (field_columns m fields head body)
RefusesParts limits fault.BadOffsets m fields head body = HasParts limits fields head body
    × ¬ Each (λ c children. HoldOffsets c.layout c.slots (length c.offsets)
    → HasOffsets c.layout c.slots c.offsets (length c.values) children)
    (field_columns m fields head body)
RefusesParts limits fault.ValueNotUtf8 m fields head body =
    HasParts limits fields head body × (HasBytes m fields head body × HasOrder m fields head body
    × ¬ HasTexts m fields head body)
RefusesParts limits fault.BadIndex m fields head body =
    HasParts limits fields head body × (HasBytes m fields head body × HasOrder m fields head body
    × ¬ HasIndices m fields head body)
RefusesParts limits fault.OutOfMemory m fields head body = ⊤
RefusesParts limits _ m fields head body = ⊥

-- a head and a body have at most one list of rows under given dictionaries, whatever the limits
abbrev pub IsOneList : Type 0
IsOneList = (limits others : Limits) (m : Dictionaries) (fields : List Field) (head : BatchHead)
    (body : List ℕ) (rows more : List (List Value)) → Rows limits m fields head body rows
    → Rows others m fields head body more → rows ≡ more
