-- A batch that was read, and the message that it is from (Message.fbs, table RecordBatch; Arrow
-- Columnar Format, "RecordBatch message").
use Rattle.std.specs.Prelude.{◌≡◌, ℕ, ◌≤◌, List, [], ◌++◌, length, map, Some}
use Rattle.ipc_model.specs.declared.limits.Limits.{Limits}
use Rattle.ipc_model.specs.declared.schema.Field.{Field}
use Rattle.ipc_meta.specs.declared.head.BatchHead.{BatchHead}
use Rattle.ipc_meta.specs.declared.head.Head.{Head}
use Rattle.ipc_meta.specs.declared.head.Head.TheVariants as head
use Rattle.ipc_frame.specs.Frames.{Encapsulates}
use Rattle.ipc_column.specs.Contents.{Contents, layouts}
use Rattle.ipc_column.specs.Dictionaries.{Dictionaries}
use Rattle.ipc_column.specs.Nested.{found_columns, with_children}
use Rattle.ipc_column.specs.Shapes.{field_columns, field_layout}
use Rattle.ipc_column.specs.checks.Rules.{total_slots, visits_in}
use Rattle.ipc_stream_read.specs.Stream.{State, Run, values_in_force}

-- a batch has the columns of these fields, with the buffers that the head locates in the body, and
-- keeps the body. At most the slots of texts and indices, and marked slots above them, were visited
pub record IsCheckedBatch (m : Dictionaries) (fields : List Field) (head : BatchHead)
    (body : List ℕ) (batch : Contents) : Type 0 where
  pub column_layouts : layouts batch ≡ map field_layout fields
  pub buffers : map with_children batch.slots ≡ found_columns (field_columns m fields head body)
  pub bytes : batch.body ≡ body
  pub bytes_len : batch.body_len ≡ length body
  pub visits : batch.tests ≤ visits_in (field_columns m fields head body)
  pub visits_at_most : batch.tests ≤ total_slots head.nodes

-- in this state the message with this head and body is the batch's
abbrev pub IsCheckedIn : State → Head → List ℕ → Contents → Type 0
IsCheckedIn (Some o) (head.Batch b pairs) body batch =
    IsCheckedBatch (values_in_force o.dictionaries) o.schema.fields b body batch
IsCheckedIn σ head body batch = ⊥

-- the bytes x are messages without an event, and then the message of the batch
pub record IsReadFrom (limits : Limits) (σ : State) (x : List ℕ) (batch : Contents) : Type 0 where
  pub silent : List ℕ
  pub message : List ℕ
  pub joined : x ≡ silent ++ message
  pub state : State
  pub run : Run limits σ silent [] state
  pub metadata : List ℕ
  pub head : Head
  pub body : List ℕ
  pub frame : Encapsulates limits message metadata head body
  pub checked : IsCheckedIn state head body batch
