-- The verdict on the beginning of a stream, however it is cut into pieces (Arrow Columnar Format,
-- "IPC Streaming Format" and "Encapsulated message format").
use Rattle.std.specs.Prelude.{◌≡◌, ◌≢◌, ℕ, ◌+◌, List, ◌++◌, length, None}
use Rattle.ipc_model.specs.declared.fault.Fault.{Fault}
use Rattle.ipc_model.specs.declared.fault.Fault.TheVariants.{OutOfMemory}
use Rattle.ipc_model.specs.declared.limits.Limits.{Limits}
use Rattle.ipc_meta.specs.declared.head.Head.{Head}
use Rattle.ipc_frame.specs.Frames.{end_of_stream, Encapsulates, Pending}
use Rattle.ipc_frame.specs.Sees.{StatesNoHead}
use Rattle.ipc_stream_read.specs.Reasons.{Refuses}
use Rattle.ipc_stream_read.specs.Stream.{State, MessageEvent, Run}

-- the decisions about a message, in their order: at its first four bytes, at its first eight, at
-- the end of its metadata, at the end of its body
pub data DecisionPoint : Type 0 where
  at_mark : DecisionPoint
  at_size : DecisionPoint
  at_metadata : DecisionPoint
  at_body : DecisionPoint

-- the message z ends at the byte of this decision: at four bytes, at eight, at the end of its
-- metadata, which states no head, or at the end of its body
abbrev pub FallsAt : Limits → List ℕ → DecisionPoint → Type 0
FallsAt limits z at_mark = length z ≡ 4
FallsAt limits z at_size = length z ≡ 8
FallsAt limits z at_metadata =
    (fault : Fault) × (s : StatesNoHead limits z fault) × (length z ≡ 8 + s.size)
FallsAt limits z at_body = (metadata body : List ℕ) × (head : Head)
    × Encapsulates limits z metadata head body

-- the message z is refused in this state for this fault, whose cause is true of it; z ends at the
-- byte of this decision
abbrev pub Reason : Limits → Fault → DecisionPoint → State → List ℕ → Type 0
Reason limits fault decision σ z = Refuses limits σ z fault × FallsAt limits z decision

-- what follows the last whole message: an undecided beginning with this many bytes up to the next
-- decision, the end mark, or a message that is refused at this decision
pub data Out : Type 0 where
  more : ℕ → Out
  end : Out
  refused : DecisionPoint → Out

-- the bytes z are what `Out` names, in this state
abbrev pub IsOutcome : Limits → State → List ℕ → Out → Type 0
IsOutcome limits σ z (more k) = Pending limits z k
IsOutcome limits σ z end = (z ≡ end_of_stream) × (σ ≢ None)
IsOutcome limits σ z (refused decision) =
    (fault : Fault) × (fault ≢ OutOfMemory) × Reason limits fault decision σ z

-- x is whole messages that report these events and change the state, followed by z
pub record Reached (limits : Limits) (σ : State) (x : List ℕ) (events : List MessageEvent)
    (τ : State) (z : List ℕ) : Type 0 where
  pub whole : List ℕ
  pub joined : x ≡ whole ++ z
  pub run : Run limits σ whole events τ

-- the verdict on the bytes x in this state: whole messages, and what follows them
pub record Verdict (limits : Limits) (σ : State) (x : List ℕ) (events : List MessageEvent)
    (out : Out) : Type 0 where
  pub state : State
  pub rest : List ℕ
  pub reached : Reached limits σ x events state rest
  pub decides : IsOutcome limits state rest out

-- two verdicts are equal
pub record SameVerdict {limits : Limits} {σ : State} {x : List ℕ} {es fs : List MessageEvent}
    {o p : Out} (u : Verdict limits σ x es o) (v : Verdict limits σ x fs p) : Type 0 where
  pub same_events : es ≡ fs
  pub same_out : o ≡ p
  pub same_state : u.state ≡ v.state
  pub same_rest : u.rest ≡ v.rest

-- bytes have at most one verdict
abbrev pub OneVerdict : Type 0
OneVerdict = (limits : Limits) (σ : State) (x : List ℕ) (es fs : List MessageEvent) (o p : Out)
    (u : Verdict limits σ x es o) (v : Verdict limits σ x fs p) → SameVerdict u v

-- the verdict does not depend on where bytes are cut. The bytes before the cut lead to a state and
-- a rest; the verdict on the rest with the bytes after the cut gives that on all bytes
abbrev pub AnyCut : Type 0
AnyCut = (limits : Limits) (σ τ : State) (x z w : List ℕ) (es fs : List MessageEvent) (o : Out)
    → Reached limits σ x es τ z → Verdict limits τ (z ++ w) fs o
    → Verdict limits σ (x ++ w) (es ++ fs) o
