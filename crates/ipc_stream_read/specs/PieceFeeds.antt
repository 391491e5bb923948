-- A stream that is pushed in pieces, call by call (Arrow Columnar Format, "IPC Streaming Format").
use Rattle.std.specs.Prelude.{◌≡◌, ◌≢◌, ℕ, List, [], ◌∷◌, ◌++◌, drop, Option, None, Some}
use Rattle.std.specs.Prelude.{Result, Ok, Err, ⊤}
use Rattle.std.specs.List.{concat}
use Rattle.ipc_model.specs.declared.fault.Fault.{Fault}
use Rattle.ipc_model.specs.declared.fault.Fault.TheVariants.{OutOfMemory}
use Rattle.ipc_model.specs.declared.table.Table.{Table}
use Rattle.ipc_frame.specs.Frames.{Pending}
use Rattle.ipc_stream_read.specs.declared.event.Event.{Event}
use Rattle.ipc_stream_read.specs.declared.event.Event.TheVariants as report
use Rattle.ipc_stream_read.specs.Decoding.{Decoding, Feeds, taking}
use Rattle.ipc_stream_read.specs.Found.{batch_rows}
use Rattle.ipc_stream_read.specs.declared.end.End.TheVariants.{Mark}
use Rattle.ipc_stream_read.specs.Stream.{MessageEvent, schema, batch, Denotes, events_of}
use Rattle.ipc_stream_read.specs.Verdicts.{DecisionPoint, Out, more, end, refused, Reason, Verdict}

-- a call of `feed` with this piece and this result, which leaves the limits as they were
abbrev pub Call : Decoding → List ℕ → Decoding → Result (ℕ × Option Event) Fault → Type 0
Call old piece new r = Feeds old piece new r × (new.limits ≡ old.limits)

-- the event is not the end
abbrev pub GoesOn : Event → Type 0
GoesOn report.End = ⊥
GoesOn event = ⊤

-- a decoder is fed these pieces in turn, and again what a call left of a piece, until the end mark
-- comes or no piece is left. No call fails. The calls return these events, and these bytes are left
pub data FeedsPieces : Decoding → List (List ℕ) → List Event → Decoding → List ℕ
    → Type 0 where
  none : {d : Decoding} → FeedsPieces d [] [] d []
  kept : {d e g : Decoding} {piece left : List ℕ} {pieces : List (List ℕ)}
      {events : List Event}
      (n : ℕ) → Call d piece e (Ok (n, None)) → FeedsPieces e pieces events g left
      → FeedsPieces d (piece ∷ pieces) events g left
  goes_on : {d e g : Decoding} {piece left : List ℕ} {pieces : List (List ℕ)}
      {events : List Event} (n : ℕ) {event : Event} → GoesOn event
      → Call d piece e (Ok (n, Some event)) → FeedsPieces e (drop n piece ∷ pieces) events g left
      → FeedsPieces d (piece ∷ pieces) (event ∷ events) g left
  ended : {d e : Decoding} {piece : List ℕ} {pieces : List (List ℕ)} (n : ℕ)
      → Call d piece e (Ok (n, Some report.End))
      → FeedsPieces d (piece ∷ pieces) (report.End ∷ []) e (drop n piece ++ concat pieces)

-- the returned events are exactly these events of the stream, in order; the end may follow them
abbrev pub AreReported : List Event → List MessageEvent → Type 0
AreReported [] [] = ⊤
AreReported (report.Schema ∷ report) (schema s ∷ events) = AreReported report events
AreReported (report.Batch found pairs ∷ report) (batch b ∷ events) =
    (b ≡ batch_rows (found, pairs)) × AreReported report events
AreReported (report.End ∷ report) events = (report ≡ []) × (events ≡ [])
AreReported report events = ⊥

-- the last of the returned events is the end
abbrev pub EndsWithMark : List Event → Type 0
EndsWithMark [] = ⊥
EndsWithMark (report.End ∷ report) = report ≡ []
EndsWithMark (report.Schema ∷ report) = EndsWithMark report
EndsWithMark (report.Batch found pairs ∷ report) = EndsWithMark report

-- bytes are left only after the end mark, and then the end is the last event
abbrev pub LeavesBytes : Out → List Event → List ℕ → Type 0
LeavesBytes (more k) report left = left ≡ []
LeavesBytes end report left = EndsWithMark report
LeavesBytes (refused decision) report left = ⊥

-- the stored bytes z and the pieces, without the bytes that are left, have a verdict with the
-- events that were returned
pub record HasVerdict (d : Decoding) (z : List ℕ) (pieces : List (List ℕ))
    (report : List Event)
    (left : List ℕ) : Type 0 where
  pub x : List ℕ
  pub joined : z ++ concat pieces ≡ x ++ left
  pub events : List MessageEvent
  pub are_told : AreReported report events
  pub out : Out
  pub leaves : LeavesBytes out report left
  pub verdict : Verdict d.limits d.state x events out

-- however the bytes of a stream are cut into pieces, the returned events are those of their verdict
abbrev pub ReportsVerdict : Type 0
ReportsVerdict = (d g : Decoding) (z left : List ℕ) (k : ℕ) (pieces : List (List ℕ))
    (events : List Event) → d.stage ≡ taking z → Pending d.limits z k
    → FeedsPieces d pieces events g left → HasVerdict d z pieces events left

-- a decoder is fed these pieces in turn, and again what a call left of a piece, until a call is
-- refused for this fault. The calls before it return these events
pub data RefusesPieces : Decoding → List (List ℕ) → List Event → Fault → Type 0 where
  fails : {d : Decoding} {piece : List ℕ} {pieces : List (List ℕ)} {fault : Fault} (e : Decoding)
      → Call d piece e (Err fault) → RefusesPieces d (piece ∷ pieces) [] fault
  after_none : {d e : Decoding} {piece : List ℕ} {pieces : List (List ℕ)}
      {events : List Event}
      {fault : Fault} (n : ℕ) → Call d piece e (Ok (n, None)) → RefusesPieces e pieces events fault
      → RefusesPieces d (piece ∷ pieces) events fault
  after_event : {d e : Decoding} {piece : List ℕ} {pieces : List (List ℕ)}
      {events : List Event}
      {fault : Fault} (n : ℕ) {event : Event} → GoesOn event
      → Call d piece e (Ok (n, Some event)) → RefusesPieces e (drop n piece ∷ pieces) events fault
      → RefusesPieces d (piece ∷ pieces) (event ∷ events) fault

-- the stored bytes z and the pieces begin with bytes that are refused for this fault: their verdict
-- has the events that were returned, and the refusal's cause is true
pub record HasRefusal (d : Decoding) (z : List ℕ) (pieces : List (List ℕ))
    (report : List Event)
    (fault : Fault) : Type 0 where
  pub x : List ℕ
  pub behind : List ℕ
  pub joined : z ++ concat pieces ≡ x ++ behind
  pub events : List MessageEvent
  pub are_told : AreReported report events
  pub decision : DecisionPoint
  pub verdict : Verdict d.limits d.state x events (refused decision)
  pub reason : Reason d.limits fault decision verdict.state verdict.rest

-- however the bytes of a stream are cut into pieces, a refusal is that of their verdict, unless
-- memory ran out
abbrev pub RefusesByVerdict : Type 0
RefusesByVerdict = (d : Decoding) (z : List ℕ) (k : ℕ) (pieces : List (List ℕ))
    (events : List Event) (fault : Fault) → d.stage ≡ taking z → Pending d.limits z k
    → RefusesPieces d pieces events fault → fault ≢ OutOfMemory → HasRefusal d z pieces events fault

-- the events and the refusal that are returned for pieces are those of the verdict of their bytes
abbrev pub AnyPieces : Type 0
AnyPieces = ReportsVerdict × RefusesByVerdict

-- the returned events are those of a table and its end, and the bytes after its end mark are left
pub record IsReportedWhole (t : Table) (w : List ℕ) (report : List Event) (left : List ℕ) :
    Type
    0 where
  pub are_told : AreReported report (events_of t)
  pub ends : EndsWithMark report
  pub behind : left ≡ w

-- bytes that denote a table with the end mark return its events and its end. They may be cut into
-- any pieces, together with bytes after them, which are left
abbrev pub TablePieces : Type 0
TablePieces = (d g : Decoding) (x w left : List ℕ) (t : Table) (pieces : List (List ℕ))
    (report : List Event) → d.state ≡ None → d.stage ≡ taking [] → Denotes d.limits x t Mark
    → concat pieces ≡ x ++ w → FeedsPieces d pieces report g left → IsReportedWhole t w report left
