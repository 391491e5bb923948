-- The message of a batch from its parts, and why its pairs are refused (Message.fbs, RecordBatch).
use Rattle.std.specs.Prelude.{◌≡◌, ℕ, ◌<◌, ◌≤◌, ⊤, ◌⊎◌, List, [], ◌∷◌, pos, Some}
use Rattle.ipc_model.specs.Entries.{AllowPairs}
use Rattle.ipc_model.specs.declared.fault.WriteFault.{WriteFault}
use Rattle.ipc_model.specs.declared.fault.WriteFault.TheVariants as w
use Rattle.ipc_model.specs.declared.limits.Limits.{Limits}
use Rattle.ipc_model.specs.declared.schema.Schema.{Schema}
use Rattle.ipc_meta.specs.declared.head.BatchHead.{BatchHead}
use Rattle.ipc_model.specs.declared.table.BatchRows.{BatchRows}
use Rattle.ipc_column.specs.Dictionaries.{Dictionaries}
use Rattle.ipc_encode.specs.declared.parts.Parts.{Parts}
use Rattle.ipc_stream_read.specs.Stream.{InForce, IsMessage, batch, values_in_force}
use Rattle.ipc_stream.specs.Writing.{batch_room_of}

-- the head of a batch with `count` rows and these parts
abbrev pub batch_head : ℕ → Parts → BatchHead
batch_head count parts =
    record { length = pos count; nodes = parts.nodes; buffers = parts.buffers }

-- x is a message that reports this batch if these dictionaries are in force, and leaves what is in
-- force
abbrev pub DenotesRows : Limits → Dictionaries → Schema → BatchRows → List ℕ → Type 0
DenotesRows limits m s b x = (o : InForce) → o.schema ≡ s → values_in_force o.dictionaries ≡ m
    → IsMessage limits (Some o) x (batch b ∷ []) (Some o)

-- the metadata of a batch with these pairs is within the limits, and so are the pairs
pub record AcceptsPairs (limits : Limits) (s : Schema) (pairs : List (List ℕ × List ℕ)) :
    Type 0 where
  pub short_metadata : batch_room_of s pairs ≤ limits.metadata
  pub allowed_pairs : AllowPairs limits pairs

-- why pairs are refused: W6 with its causes, or out of memory
abbrev pub RefusesPairs : Limits → Schema → List (List ℕ × List ℕ) → WriteFault → Type 0
RefusesPairs limits s pairs w.TooLong =
    (limits.metadata < batch_room_of s pairs) ⊎ ¬ AllowPairs limits pairs
RefusesPairs limits s pairs w.OutOfMemory = ⊤
RefusesPairs limits s pairs fault = ⊥
