-- What the calls that write metadata answer.
use Rattle.std.proofs.Common.{◌≡◌, ◌∙◌, ap, subst, ℕ, ◌<◌, ◌≤◌, List, ◌++◌, inl, inr, arith}
use Rattle.std.specs.Prelude.{ℤ, FitsSigned, ◌⊎◌, Result, Ok, Err, IfOk, IfErr}
use Rattle.std.specs.Int.{w64, cast_signed, cast_unsigned}
use Rattle.std.proofs.lemmas.Int.{to_z-of_z}
use Rattle.ipc_model.specs.WellFormed.{WellFormed}
use Rattle.ipc_model.specs.declared.fault.WriteFault.{WriteFault}
use Rattle.ipc_model.specs.declared.fault.WriteFault.TheVariants.{TooLong, OutOfMemory}
use Rattle.ipc_model.specs.declared.schema.Schema.{Schema}
use Rattle.ipc_build.specs.Trees.{Tree}
use Rattle.ipc_build.specs.Encodes.{Encodes}
use Rattle.ipc_build.specs.Room.{room}
use Rattle.ipc_meta.specs.declared.head.BatchHead.{BatchHead}
use Rattle.ipc_meta.specs.declared.head.Head.TheVariants as head
use Rattle.ipc_meta.specs.Heads.{HeadOf}
use Rattle.ipc_model.specs.Entries.{AllowPairs}
use Rattle.ipc_meta.specs.Rooms.{schema_room, head_room, IsTooLong, dictionary_head_room, IsDictionaryTooLong}
use Rattle.ipc_meta.specs.Rooms as too_long
use Rattle.ipc_meta.specs.Written.{schema_message, batch_message, dictionary_message}
use Rattle.ipc_meta.proofs.written.WrittenHeads.{schema_stated, batch_stated, dictionary_stated}
use Rattle.ipc_meta.proofs.written.WrittenOrder.{schema_needs, batch_room_opens, dictionary_room_opens}
use Rattle.ipc_model.specs.declared.limits.Limits.{Limits}

-- what follows of each answer of a call follows where the call answers
pub ok_then : {A E : Type 0} (P Q : A → Type 0) (r : Result A E) → ((x : A) → P x → Q x) → IfOk r P → IfOk r Q
ok_then P Q (Ok x) f h = f x h
ok_then P Q (Err e) f h = tt

-- what follows of each fault of a call follows where the call fails
pub err_then : {A E : Type 0} (P Q : E → Type 0) (r : Result A E) → ((x : E) → P x → Q x) → IfErr r P → IfErr r Q
err_then P Q (Ok x) f h = tt
err_then P Q (Err e) f h = f e h

-- memory ran out, or the tree's room is above the limit
abbrev pub NoRoom : Limits → Tree → WriteFault → Type 0
NoRoom limits f fault = (fault ≡ OutOfMemory) ⊎ ((fault ≡ TooLong) × (limits.metadata < room f))

-- where a tree lies in some bytes, whatever comes behind them, an equal tree does
pub lies_as : (b : List ℕ) (f g : Tree) → f ≡ g → ((rest : List ℕ) → Encodes (b ++ rest) f) → (rest : List ℕ) → Encodes (b ++ rest) g
lies_as b f g e h rest = subst (λ (x : Tree). Encodes (b ++ rest) x) e (h rest)

-- bytes in which the message of a well formed schema lies state that schema, and a body of no bytes
pub schema_states : {limits : Limits} → (b : List ℕ) (s : Schema) (f : Tree) → WellFormed limits s → f ≡ schema_message s
    → ((rest : List ℕ) → Encodes (b ++ rest) f)
    → (rest : List ℕ) → HeadOf limits (b ++ rest) (head.Schema s) 0
schema_states b s f w e h rest = schema_stated (b ++ rest) s w (lies_as b f (schema_message s) e h rest)

-- the room of a schema's message is the one that the definition gives
pub schema_room_is : (s : Schema) (f : Tree) → f ≡ schema_message s → room f ≡ schema_room s
schema_room_is s f e = ap room e ∙ schema_needs s

-- a schema is refused where memory ran out, or where its message is longer than metadata may be
pub schema_refused : (limits : Limits) (s : Schema) (f : Tree) (fault : WriteFault) → f ≡ schema_message s → NoRoom limits f fault
    → (fault ≡ OutOfMemory) ⊎ ((fault ≡ TooLong) × (limits.metadata < schema_room s))
schema_refused limits s f fault e h = subst (λ (n : ℕ). (fault ≡ OutOfMemory) ⊎ ((fault ≡ TooLong)
    × (limits.metadata < n))) (schema_room_is s f e) h

-- bytes in which the message of a batch lies state the batch's head and the length of its body
pub batch_states : {limits : Limits} → (b : List ℕ) (h : BatchHead) (ps : List (List ℕ × List ℕ)) (m : ℕ) (f : Tree) → m ≤ limits.body
    → AllowPairs limits ps → f ≡ batch_message h ps m
    → ((rest : List ℕ) → Encodes (b ++ rest) f) → (rest : List ℕ) → HeadOf limits (b ++ rest) (head.Batch h ps) m
batch_states b h ps m f small allowed e lies rest =
    batch_stated (b ++ rest) h ps m small allowed (lies_as b f (batch_message h ps m) e lies rest)

-- the room of a batch's message is the one that the definition gives
pub batch_room_is : (h : BatchHead) (ps : List (List ℕ × List ℕ)) (m : ℕ) (f : Tree) → f ≡ batch_message h ps m → room f ≡ head_room h ps m
batch_room_is h ps m f e = ap room e ∙ batch_room_opens h ps m

-- a batch is refused where memory ran out, or where its message is longer than metadata may be
pub batch_refused : (limits : Limits) (h : BatchHead) (ps : List (List ℕ × List ℕ)) (m : ℕ) (f : Tree) (fault : WriteFault)
    → f ≡ batch_message h ps m → NoRoom limits f fault
    → (fault ≡ OutOfMemory) ⊎ ((fault ≡ TooLong) × IsTooLong limits h ps m)
batch_refused limits h ps m f fault e (inl o) = inl o
batch_refused limits h ps m f fault e (inr t) =
    inr (t.0, too_long.long_metadata (subst (λ (n : ℕ). limits.metadata < n) (batch_room_is h ps m f e) t.1))

-- what has room, a body within the limit and pairs that are allowed is not too long
pub not_too_long : (limits : Limits) (h : BatchHead) (ps : List (List ℕ × List ℕ)) (m : ℕ) → head_room h ps m ≤ limits.metadata
    → m ≤ limits.body → AllowPairs limits ps → IsTooLong limits h ps m → ⊥
not_too_long limits h ps m room body allowed (too_long.long_metadata long) = absurd (omega (arith, room, long))
not_too_long limits h ps m room body allowed (too_long.long_body long) = absurd (omega (arith, body, long))
not_too_long limits h ps m room body allowed (too_long.other_pairs other) = other allowed

-- the id that the bits of a dictionary's id stand for is that id
pub dictionary_is : (id : ℤ) (h : BatchHead) (m : ℕ) (f : Tree) → FitsSigned w64 id
    → f ≡ dictionary_message (cast_signed w64 (cast_unsigned w64 id)) h m → f ≡ dictionary_message id h m
dictionary_is id h m f fits e = e ∙ ap (λ (z : ℤ). dictionary_message z h m) (to_z-of_z w64 id fits)

-- bytes in which the message of a dictionary batch lies state its id, its head and the length of its body
pub dictionary_states : {limits : Limits} → (b : List ℕ) (id : ℤ) (h : BatchHead) (m : ℕ) (f : Tree) → m ≤ limits.body
    → f ≡ dictionary_message id h m → ((rest : List ℕ) → Encodes (b ++ rest) f)
    → (rest : List ℕ) → HeadOf limits (b ++ rest) (head.Dictionary id h) m
dictionary_states b id h m f small e lies rest =
    dictionary_stated (b ++ rest) id h m small (lies_as b f (dictionary_message id h m) e lies rest)

-- the room of a dictionary batch's message is the one that the definition gives
pub dictionary_room_is : (id : ℤ) (h : BatchHead) (m : ℕ) (f : Tree) → f ≡ dictionary_message id h m → room f ≡ dictionary_head_room id h m
dictionary_room_is id h m f e = ap room e ∙ dictionary_room_opens id h m

-- a dictionary batch is refused where memory ran out, or where its message is longer than metadata may be
pub dictionary_refused : (limits : Limits) (id : ℤ) (h : BatchHead) (m : ℕ) (f : Tree) (fault : WriteFault)
    → f ≡ dictionary_message id h m → NoRoom limits f fault
    → (fault ≡ OutOfMemory) ⊎ ((fault ≡ TooLong) × IsDictionaryTooLong limits id h m)
dictionary_refused limits id h m f fault e (inl o) = inl o
dictionary_refused limits id h m f fault e (inr t) = inr (
  t.0,
  too_long.IsDictionaryTooLong.long_metadata (subst (λ (n : ℕ). limits.metadata < n) (dictionary_room_is id h m f e) t.1),
)

-- a dictionary batch that has room and a body within the limit is not too long
pub dictionary_not_too_long : (limits : Limits) (id : ℤ) (h : BatchHead) (m : ℕ) → dictionary_head_room id h m ≤ limits.metadata
    → m ≤ limits.body → IsDictionaryTooLong limits id h m → ⊥
dictionary_not_too_long limits id h m room body (too_long.long_metadata long) = absurd (omega (arith, room, long))
dictionary_not_too_long limits id h m room body (too_long.long_body long) = absurd (omega (arith, body, long))
