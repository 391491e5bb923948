-- The bytes of messages (Arrow Columnar Format, "Encapsulated message format").
use Rattle.std.specs.Prelude.{◌≡◌, ℕ, ℤ, List, [], ◌∷◌, ◌++◌, ⊤}
use Rattle.ipc_model.specs.declared.limits.Limits.{Limits}
use Rattle.ipc_model.specs.declared.schema.Schema.{Schema}
use Rattle.ipc_model.specs.declared.value.Value.{Value}
use Rattle.ipc_encode.specs.Segments.{bytes_of_segments}
use Rattle.ipc_stream.specs.declared.batch_messages.BatchMessages.{BatchMessages}
use Rattle.ipc_stream.specs.declared.gathering.Gathered.{Gathered}
use Rattle.ipc_stream.specs.declared.message.Message.{Message}
use Rattle.ipc_stream.specs.Dictionaries.{IsDictionaryMessage}

-- all bytes of a message: those before the body, and the body
abbrev pub message_bytes : Message → List ℕ
message_bytes message = message.front.items ++ message.body.items

-- the bytes of messages, one after another
abbrev pub all_bytes : List Message → List ℕ
all_bytes [] = []
all_bytes (message ∷ more) = message_bytes message ++ all_bytes more

-- the bytes of the messages of a batch: those of its dictionaries, and its own
abbrev pub batch_bytes : BatchMessages → List ℕ
batch_bytes messages = all_bytes messages.dictionaries.items
    ++ (messages.front.items ++ bytes_of_segments messages.segments.items)

-- the bytes of the segments that are complete, and those that are joined after them
abbrev pub gathered_bytes : Gathered → List ℕ
gathered_bytes gathered = bytes_of_segments gathered.segments.items ++ gathered.joined.items

-- a message sets the dictionary with the id to the values of these rows (Arrow Columnar Format,
-- "Dictionary Messages")
abbrev pub SetsDictionary : Limits → Schema → ℤ → List (List Value) → Message → Type 0
SetsDictionary limits s id rows message = IsDictionaryMessage limits s (id, rows)
    (message_bytes message)

-- each of the messages sets the dictionary of the id and rows at its index
abbrev pub SetDictionaries : Limits → Schema → List (ℤ × List (List Value)) → List Message → Type 0
SetDictionaries limits s [] [] = ⊤
SetDictionaries limits s (send ∷ sends) (message ∷ more) =
    SetsDictionary limits s send.0 send.1 message × SetDictionaries limits s sends more
SetDictionaries limits s _ _ = ⊥

-- one message is appended, which sets the dictionary with this id to these rows
abbrev pub AddsDictionary : Limits → Schema → ℤ × List (List Value) → List Message → List Message
    → Type 0
AddsDictionary limits s send old new = (message : Message)
    × ((new ≡ old ++ message ∷ []) × SetsDictionary limits s send.0 send.1 message)
