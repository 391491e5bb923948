-- Laws of the metadata of a message (Message.fbs, table Message).
use Rattle.std.specs.Prelude.{◌≡◌, ℕ, ℤ, List, length}
use Rattle.ipc_model.specs.declared.limits.Limits.{Limits}
use Rattle.ipc_meta.specs.declared.head.BatchHead.{BatchHead}
use Rattle.ipc_meta.specs.declared.head.Head.{Head}
use Rattle.ipc_meta.specs.Heads.{HeadOf}
use Rattle.ipc_meta.specs.Rooms.{head_room, batch_room, dictionary_head_room, dictionary_room}

-- metadata states at most one head and one body length, whatever the limits
abbrev pub OneHead : Type 0
OneHead = (limits others : Limits) (metadata : List ℕ) (g h : Head) (m n : ℕ)
    → HeadOf limits metadata g m → HeadOf others metadata h n
    → (g ≡ h) × (m ≡ n)

-- the room of a batch's metadata depends only on its pairs and on the numbers of its nodes and
-- buffers
abbrev pub RoomByCounts : Type 0
RoomByCounts = (head : BatchHead) (pairs : List (List ℕ × List ℕ)) (m : ℕ)
    → head_room head pairs m ≡ batch_room (length head.nodes) (length head.buffers) pairs

-- the room of a dictionary batch's metadata depends only on the numbers of its nodes and buffers
abbrev pub DictionaryRoomByCounts : Type 0
DictionaryRoomByCounts = (id : ℤ) (head : BatchHead) (m : ℕ)
    → dictionary_head_room id head m ≡ dictionary_room (length head.nodes) (length head.buffers)
