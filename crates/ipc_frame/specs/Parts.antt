-- The bytes of one message that have come so far, in its three parts (Arrow Columnar Format,
-- "Encapsulated message format").
use Rattle.std.specs.Prelude.{◌≡◌, ℕ, ◌+◌, ◌-◌, ◌*◌, ◌<◌, ◌≤◌, max, List, [], ◌++◌, length, take}
use Rattle.std.specs.Prelude.{Result, Ok, Err, vec_capacity, ⊤}
use Rattle.ipc_meta.specs.declared.head.Head.{Head}
use Rattle.ipc_meta.specs.Heads.{HeadOf}
use Rattle.ipc_model.specs.Answers.{UnlessOutOfMemory}
use Rattle.ipc_model.specs.declared.fault.Fault.{Fault}
use Rattle.ipc_model.specs.declared.limits.Limits.{Limits}
use Rattle.ipc_frame.specs.Buffers.{filled_bytes}
use Rattle.ipc_frame.specs.Frames.{continuation_marker, end_of_stream, Encapsulates, Begins}
use Rattle.ipc_frame.specs.Frames.{Pending}
use Rattle.ipc_frame.specs.Sees.{RefusesMessage}
use Rattle.ipc_frame.specs.declared.partial_message.PartialMessage.{PartialMessage}
use Rattle.ipc_frame.specs.declared.partial_message.Expectation.{Expectation}
use Rattle.ipc_frame.specs.declared.partial_message.Expectation.TheVariants as expectation
use Rattle.ipc_frame.specs.declared.decision.Decision.{Decision}
use Rattle.ipc_frame.specs.declared.decision.Decision.TheVariants as decision

-- all bytes that have come
abbrev pub received_bytes : PartialMessage → List ℕ
received_bytes p = p.start ++ (filled_bytes p.meta ++ filled_bytes p.body)

-- how many bytes the buffers of a message have room for: the metadata's and the body's
pub record Capacity : Type 0 where
  pub metadata : ℕ
  pub body : ℕ

-- there is no buffer
abbrev pub no_capacity : Capacity
no_capacity = record { metadata = 0; body = 0 }

-- the room of the buffers of a message
abbrev pub capacity_of : PartialMessage → Capacity
capacity_of p = record { metadata = vec_capacity p.meta.buffer; body = vec_capacity p.body.buffer }

-- each buffer has room for at most twice the `count` bytes of the message that have come, and 64
-- KiB, or for what it had room for before
pub record GrowsWithBytes (old new : Capacity) (count : ℕ) : Type 0 where
  pub metadata : new.metadata ≤ max old.metadata (2 * count + 65536)
  pub body : new.body ≤ max old.body (2 * count + 65536)

-- how many bytes are needed before the next decision
abbrev pub bytes_needed : PartialMessage → Expectation → ℕ
bytes_needed p expectation.Continuation = 4 - length p.start
bytes_needed p expectation.Size = 8 - length p.start
bytes_needed p (expectation.Metadata size) = size - length (filled_bytes p.meta)
bytes_needed p (expectation.Body size) = size - length (filled_bytes p.body)

-- the mark is being read: at most four bytes have come, none of them of the metadata or the body
pub record InMark (start meta body : List ℕ) : Type 0 where
  pub few : length start ≤ 4
  pub no_metadata : meta ≡ []
  pub no_body : body ≡ []

-- the size is being read: the mark is complete, and at most eight bytes have come
pub record InSize (start meta body : List ℕ) : Type 0 where
  pub four : 4 ≤ length start
  pub few : length start ≤ 8
  pub marked : take 4 start ≡ continuation_marker
  pub no_metadata : meta ≡ []
  pub no_body : body ≡ []

-- the metadata is being read: the first eight bytes state its size, which is above 0
pub record InMetadata (limits : Limits) (start meta body : List ℕ) (size : ℕ) : Type 0 where
  pub eight : length start ≡ 8
  pub begins : Begins limits start size
  pub some : 0 < size
  pub few : length meta ≤ size
  pub no_body : body ≡ []

-- the body is being read: the metadata states its size
pub record InBody (limits : Limits) (start meta body : List ℕ) (size : ℕ) : Type 0 where
  pub eight : length start ≡ 8
  pub begins : Begins limits start (length meta)
  pub head : Head
  pub states : HeadOf limits meta head size
  pub few : length body ≤ size

-- the parts before the awaited one are complete, and the awaited one has at most its size
abbrev pub FitsExpectation : Limits → PartialMessage → Expectation → Type 0
FitsExpectation limits p expectation.Continuation =
    InMark p.start (filled_bytes p.meta) (filled_bytes p.body)
FitsExpectation limits p expectation.Size =
    InSize p.start (filled_bytes p.meta) (filled_bytes p.body)
FitsExpectation limits p (expectation.Metadata size) =
    InMetadata limits p.start (filled_bytes p.meta) (filled_bytes p.body) size
FitsExpectation limits p (expectation.Body size) = InBody limits p.start (filled_bytes p.meta)
    (filled_bytes p.body) size

-- nothing is decided: more of the awaited part has to come
pub record Undecided (limits : Limits) (p : PartialMessage) (a : Expectation) : Type 0 where
  pub fits : FitsExpectation limits p a
  pub pending : Pending limits (received_bytes p) (bytes_needed p a)

-- the decision on the bytes that have come: none yet, the end mark, a message, or a refusal
abbrev pub Decides : Limits → PartialMessage → Result Decision Fault → Type 0
Decides limits p (Ok (decision.More a)) = Undecided limits p a
Decides limits p (Ok decision.End) = received_bytes p ≡ end_of_stream
Decides limits p (Ok (decision.Message head)) =
    Encapsulates limits (received_bytes p) (filled_bytes p.meta) head (filled_bytes p.body)
Decides limits p (Err fault) =
    UnlessOutOfMemory fault (RefusesMessage limits (received_bytes p) fault)

-- the awaited part comes after the size of the metadata
abbrev pub HasSize : Expectation → Type 0
HasSize expectation.Continuation = ⊥
HasSize expectation.Size = ⊥
HasSize (expectation.Metadata size) = ⊤
HasSize (expectation.Body size) = ⊤
