-- An upper bound of how many bytes the metadata of a message takes: the room of the tree that is
-- written, which is this project's (FlatBuffers binary format).
use Rattle.std.specs.Prelude.{ℕ, ◌<◌, ℤ, pos, List, replicate}
use Rattle.ipc_build.specs.Room.{room}
use Rattle.ipc_model.specs.Entries.{AllowPairs}
use Rattle.ipc_model.specs.declared.limits.Limits.{Limits}
use Rattle.ipc_model.specs.declared.schema.Schema.{Schema}
use Rattle.ipc_meta.specs.declared.head.BatchHead.{BatchHead}
use Rattle.ipc_meta.specs.Written.{schema_message, batch_message, dictionary_message}

-- the room of a schema's metadata
unfoldable pub schema_room : Schema → ℕ
schema_room s = room (schema_message s)

-- the room of the metadata of this batch with these pairs and a body of m bytes
unfoldable pub head_room : BatchHead → List (List ℕ × List ℕ) → ℕ → ℕ
head_room head pairs m = room (batch_message head pairs m)

-- n pairs of zeros
abbrev pub zeros : ℕ → List (ℤ × ℤ)
zeros n = replicate n (pos 0, pos 0)

-- a batch is too long to be written: its metadata, its body or its pairs are above the limits
pub data IsTooLong (limits : Limits) (head : BatchHead) (pairs : List (List ℕ × List ℕ)) (m : ℕ) :
    Type 0 where
  long_metadata : limits.metadata < head_room head pairs m → IsTooLong limits head pairs m
  long_body : limits.body < m → IsTooLong limits head pairs m
  other_pairs : (AllowPairs limits pairs → ⊥) → IsTooLong limits head pairs m

-- the room of the metadata of a batch with these pairs and these numbers of nodes and buffers,
-- whatever they hold (`RoomByCounts`)
unfoldable pub batch_room : ℕ → ℕ → List (List ℕ × List ℕ) → ℕ
batch_room nodes buffers pairs = head_room
    (record { length = pos 0; nodes = zeros nodes; buffers = zeros buffers }) pairs 0

-- the room of the metadata of this dictionary batch with this id and a body of m bytes
unfoldable pub dictionary_head_room : ℤ → BatchHead → ℕ → ℕ
dictionary_head_room id head m = room (dictionary_message id head m)

-- a dictionary batch is too long to be written: its metadata or its body is above the limits
pub data IsDictionaryTooLong (limits : Limits) (id : ℤ) (head : BatchHead) (m : ℕ) : Type 0 where
  long_metadata : limits.metadata < dictionary_head_room id head m
      → IsDictionaryTooLong limits id head m
  long_body : limits.body < m → IsDictionaryTooLong limits id head m

-- the room of the metadata of a dictionary batch with these numbers of nodes and buffers, whatever
-- they hold and whatever its id is (`DictionaryRoomByCounts`)
unfoldable pub dictionary_room : ℕ → ℕ → ℕ
dictionary_room nodes buffers = dictionary_head_room (pos 0)
    (record { length = pos 0; nodes = zeros nodes; buffers = zeros buffers }) 0
