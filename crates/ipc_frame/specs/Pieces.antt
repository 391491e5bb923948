-- Messages that arrive in pieces, call by call (Arrow Columnar Format, "Encapsulated message
-- format" and "IPC Streaming Format").
use Rattle.std.specs.Prelude.{◌≡◌, ◌≢◌, ℕ, ◌+◌, ◌<◌, ◌≤◌, List, [], ◌++◌, length, take, Option}
use Rattle.std.specs.Prelude.{Some, None, Result, Ok, Err, ⊤}
use Rattle.ipc_model.specs.Answers.{UnlessOutOfMemory}
use Rattle.ipc_model.specs.declared.fault.Fault.{Fault}
use Rattle.ipc_model.specs.declared.fault.Fault.TheVariants.{Failed, Truncated}
use Rattle.ipc_model.specs.declared.limits.Limits.{Limits}
use Rattle.ipc_frame.specs.Frames.{Begins, IsSized, Pending}
use Rattle.ipc_frame.specs.Sees.{IsFrame, RefusesMessage}
use Rattle.ipc_frame.specs.Decisions.{RefusesNow}
use Rattle.ipc_frame.specs.Parts.{Capacity, received_bytes, no_capacity, capacity_of, Undecided}
use Rattle.ipc_frame.specs.declared.frame.Frame.{Frame}
use Rattle.ipc_frame.specs.declared.frame.Frame.TheVariants as f
use Rattle.ipc_frame.specs.declared.partial_message.FramePhase.{FramePhase}
use Rattle.ipc_frame.specs.declared.partial_message.FramePhase.TheVariants as phase
use Rattle.ipc_frame.specs.declared.partial_message.PartialMessage.{PartialMessage}

-- the state of the stream of messages: these bytes of the current message have come, the stream has
-- ended, or it was refused
pub data Progress : Type 0 where
  taking : List ℕ → Progress
  ended : Progress
  refused : Progress

-- the value of a `Frames`: its limits, its progress, and the room of the buffers that it keeps
pub record Framing : Type 0 where
  pub limits : Limits
  pub progress : Progress
  pub room : Capacity

-- the progress that the stored bytes and the phase denote
abbrev pub progress_of : PartialMessage → FramePhase → Progress
progress_of p (phase.Reading a) = taking (received_bytes p)
progress_of p phase.Ended = ended
progress_of p phase.Refused = refused

-- the stored bytes are the undecided beginning of a message; none are stored, and no buffer is
-- kept, after the end or a refusal
abbrev pub MatchesPhase : Limits → PartialMessage → FramePhase → Type 0
MatchesPhase limits p (phase.Reading a) = Undecided limits p a
MatchesPhase limits p phase.Ended = (received_bytes p ≡ []) × (capacity_of p ≡ no_capacity)
MatchesPhase limits p phase.Refused = (received_bytes p ≡ []) × (capacity_of p ≡ no_capacity)

-- the progress after a frame: after a message another one may come, after the end mark none
abbrev pub progress_after : Frame → Progress
progress_after (f.Message meta head body) = taking []
progress_after f.End = ended

-- the result of the bytes z of a message: they are stored and undecided, or they are a frame, or
-- they are refused
abbrev pub Concludes : Limits → List ℕ → Progress → Result (Option Frame) Fault → Type 0
Concludes limits z new (Ok None) = (new ≡ taking z) × ((k : ℕ) × Pending limits z k)
Concludes limits z new (Ok (Some frame)) = (new ≡ progress_after frame) × IsFrame limits z frame
Concludes limits z new (Err fault) =
    (new ≡ refused) × UnlessOutOfMemory fault (RefusesMessage limits z fault)

-- how a piece is taken. The stored bytes with a beginning of the piece are a frame, or are refused
-- at their last byte; or the whole piece is stored and nothing is decided. After the end no bytes
-- are taken; after a refusal the result is F35
abbrev pub FeedsFrames : Limits → Progress → List ℕ → Progress → Result (ℕ × Option Frame) Fault
    → Type 0
FeedsFrames limits (taking z) piece new (Ok (n, None)) = (n ≡ length piece)
    × (new ≡ taking (z ++ piece)) × ((k : ℕ) × Pending limits (z ++ piece) k)
FeedsFrames limits (taking z) piece new (Ok (n, Some frame)) = (n ≤ length piece)
    × (new ≡ progress_after frame) × IsFrame limits (z ++ take n piece) frame
FeedsFrames limits (taking z) piece new (Err fault) = (new ≡ refused) × UnlessOutOfMemory fault
    ((n : ℕ) × (n ≤ length piece) × RefusesNow limits (z ++ take n piece) fault)
FeedsFrames limits ended piece new r = (new ≡ ended) × (r ≡ Ok (0, None))
FeedsFrames limits refused piece new r = (new ≡ refused) × (r ≡ Err Failed)

-- k more bytes reach the next decision; k is 0 if no message is awaited
abbrev pub Wants : Limits → Progress → ℕ → Type 0
Wants limits (taking z) k = Pending limits z k
Wants limits ended k = k ≡ 0
Wants limits refused k = k ≡ 0

-- how many bytes are stored: all that have come of the current message
abbrev pub held_of : Progress → ℕ
held_of (taking z) = length z
held_of ended = 0
held_of refused = 0

-- no more bytes come. A stream may end if no byte of an unfinished message has come; otherwise it
-- is cut off, which is F4. After a refusal the result is F35
abbrev pub Closes : Progress → Progress → Result Unit Fault → Type 0
Closes (taking z) new (Ok x) = (z ≡ []) × (new ≡ ended)
Closes (taking z) new (Err fault) = (z ≢ []) × (fault ≡ Truncated) × (new ≡ refused)
Closes ended new r = (new ≡ ended) × (r ≡ Ok tt)
Closes refused new r = (new ≡ refused) × (r ≡ Err Failed)

-- bytes of the body have come: z is longer than the first eight bytes and the metadata
abbrev pub HasBody : Limits → List ℕ → Type 0
HasBody limits z = (n : ℕ) × Begins limits z n × (8 + n < length z)

-- a buffer that is offered takes the place of the present one, if messages are awaited, no byte of
-- a body has come, and it has room for more bytes
abbrev pub TakesBuffer : Limits → Progress → ℕ → ℕ → Type 0
TakesBuffer limits (taking z) present offered = (HasBody limits z → ⊥) × (present < offered)
TakesBuffer limits ended present offered = ⊥
TakesBuffer limits refused present offered = ⊥

-- no buffer is kept after the end or a refusal
abbrev pub DropsBuffers : Progress → Capacity → Type 0
DropsBuffers (taking z) room = ⊤
DropsBuffers ended room = room ≡ no_capacity
DropsBuffers refused room = room ≡ no_capacity

-- a call may take memory for a message only after its first eight bytes: the stored bytes with the
-- piece state a size of the metadata, which is within the limits and above 0
abbrev pub TakesMemory : Limits → Progress → List ℕ → Type 0
TakesMemory limits (taking z) piece = IsSized limits (z ++ piece)
TakesMemory limits ended piece = ⊥
TakesMemory limits refused piece = ⊥
