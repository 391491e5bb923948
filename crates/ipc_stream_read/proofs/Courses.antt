-- What a frame brings to a stream is what the stream denotes.
use Rattle.std.proofs.Common.{◌≡◌, ◌≢◌, ◌∙◌, refl, sym, ap, subst, ℕ, ℤ, inl, inr, List, [], ◌∷◌, Option, Some, None}
use Rattle.std.proofs.Common.{Ok, Err, length}
use Rattle.ipc_model.specs.Answers.{UnlessOutOfMemory}
use Rattle.ipc_model.specs.declared.fault.Fault.{Fault}
use Rattle.ipc_model.specs.declared.fault.Fault.TheVariants.{NotContinued, BadMetadataLength, MetadataTooLong, Read}
use Rattle.ipc_model.specs.declared.limits.Limits.{Limits}
use Rattle.ipc_model.specs.declared.schema.Schema.{Schema}
use Rattle.ipc_meta.specs.declared.head.Head.{Head}
use Rattle.ipc_meta.specs.declared.head.Head.TheVariants as h
use Rattle.ipc_meta.specs.declared.head.BatchHead.{BatchHead}
use Rattle.ipc_frame.specs.Frames.{end_of_stream, Encapsulates}
use Rattle.ipc_frame.specs.Sees.{IsFrame, RefusesStart}
use Rattle.ipc_frame.specs.Decisions.{RefusesNow, start_decision}
use Rattle.ipc_frame.specs.declared.frame.Frame.{Frame}
use Rattle.ipc_frame.specs.declared.frame.Frame.TheVariants as f
use Rattle.ipc_stream_read.specs.declared.event.Event.{Event}
use Rattle.ipc_stream_read.specs.declared.event.Event.TheVariants as report
use Rattle.ipc_stream_read.specs.StreamStates.{Brings, IsWellFormedFrame, RefusesFrame, RefusesValues}
use Rattle.ipc_stream_read.specs.Found.{batch_rows}
use Rattle.ipc_stream_read.specs.ReadBatches.{IsReadFrom}
use Rattle.ipc_stream_read.specs.Reasons.{Refuses, early, no_schema, second_schema, dictionary, no_values, no_rows}
use Rattle.ipc_stream_read.specs.Stream.{InForce, State, MessageEvent, schema, batch, Step, IsMessage, done}
use Rattle.ipc_stream_read.specs.Verdicts.{DecisionPoint, at_mark, at_size, at_metadata, at_body, FallsAt, Reason}

-- ---- one frame

-- a schema that a frame brings keeps the rules
pub frame_well_formed : (limits : Limits) (x : List ℕ) (frame : Frame) → IsFrame limits x frame → IsWellFormedFrame limits frame
frame_well_formed limits x f.End is = tt
frame_well_formed limits x (f.Message meta (h.Schema s) body) is = is.states.header.1.2.well_formed
frame_well_formed limits x (f.Message meta (h.Dictionary id b) body) is = tt
frame_well_formed limits x (f.Message meta (h.Batch b pairs) body) is = tt

-- what a frame that is taken tells
abbrev pub Brought : Limits → State → State → List ℕ → Option Event → Type 0
Brought limits σ τ x None = IsMessage limits σ x [] τ
Brought limits σ τ x (Some report.Schema) = (s : Schema) × IsMessage limits σ x (schema s ∷ []) τ
Brought limits σ τ x (Some (report.Batch found pairs)) =
    IsMessage limits σ x (batch (batch_rows (found, pairs)) ∷ []) τ × IsReadFrom limits σ x found
Brought limits σ τ x (Some report.End) = (x ≡ end_of_stream) × (τ ≡ σ) × (τ ≢ None)

message_of : (limits : Limits) (σ τ : State) (x metadata body : List ℕ) (g : Head) (es : List MessageEvent)
    → Encapsulates limits x metadata g body → Step limits σ g body es τ → IsMessage limits σ x es τ
message_of limits σ τ x metadata body g es frame step =
    record { metadata = metadata; head = g; body = body; frame = frame; step = step }

-- what is taken of a frame is what the stream tells
pub brought : (limits : Limits) (σ τ : State) (x : List ℕ) (frame : Frame) (found : Option Event) → IsFrame limits x frame
    → Brings limits σ frame τ (Ok found) → Brought limits σ τ x found
brought limits σ τ x (f.Message meta g body) None is b = message_of limits σ τ x meta.items body.items g [] is b
brought limits σ τ x (f.Message meta g body) (Some report.Schema) is b =
    (b.0, message_of limits σ τ x meta.items body.items g (schema b.0 ∷ []) is b.1)
brought limits σ τ x (f.Message meta g body) (Some (report.Batch found pairs)) is b = (
  message_of limits σ τ x meta.items body.items g (batch (batch_rows (found, pairs)) ∷ []) is b.0,
  record {
    silent = [];
    message = x;
    joined = refl;
    state = σ;
    run = done;
    metadata = meta.items;
    head = g;
    body = body.items;
    frame = is;
    checked = b.1;
  },
)
brought limits σ τ x (f.Message meta g body) (Some report.End) is b = absurd b
brought limits σ τ x f.End None is b = absurd b
brought limits σ τ x f.End (Some report.Schema) is b = absurd b
brought limits σ τ x f.End (Some (report.Batch found pairs)) is b = absurd b
brought limits σ τ x f.End (Some report.End) is b = (is, b.0, λ none. b.1 (sym b.0 ∙ none))

-- ---- what is refused

start_falls : (limits : Limits) (x : List ℕ) (e : Fault) → RefusesStart limits x e → length x ≡ start_decision e
    → (d : DecisionPoint) × FallsAt limits x d
start_falls limits x NotContinued r long = (at_mark, long)
start_falls limits x BadMetadataLength r long = (at_size, long)
start_falls limits x MetadataTooLong r long = (at_size, long)
start_falls limits x _ r long = absurd r

-- what is refused before its body is refused at an early decision
pub early_reason : (limits : Limits) (σ : State) (x : List ℕ) (e : Fault) → RefusesNow limits x e
    → (d : DecisionPoint) × Reason limits e d σ x
early_reason limits σ x e (inl r) = let falls = start_falls limits x e r.0 r.1 in (falls.0, (early (inl r), falls.1))
early_reason limits σ x e (inr r) = (at_metadata, (early (inr r), (e, r.0, r.1)))

body_falls : (limits : Limits) (x : List ℕ) (frame : Frame) → IsFrame limits x frame
    → (d : DecisionPoint) × FallsAt limits x d
body_falls limits x f.End is = (at_size, ap length is)
body_falls limits x (f.Message meta g body) is = (at_body, (meta.items, body.items, g, is))

-- why a frame is no schema's
no_schema_refused : (limits : Limits) (x : List ℕ) (frame : Frame) (e : Fault) → IsFrame limits x frame
    → RefusesFrame limits None frame e → Refuses limits None x e
no_schema_refused limits x frame e is r = no_schema frame r.0 refl is r.1

-- why a dictionary is refused
values_refused : (limits : Limits) (o : InForce) (x metadata body : List ℕ) (id : ℤ) (b : BatchHead) (e : Fault)
    → Encapsulates limits x metadata (h.Dictionary id b) body → RefusesValues limits o id b body e → Refuses limits (Some o) x e
values_refused limits o x metadata body id b e is (inl r) = dictionary o id b metadata body r.0 refl r.1 is
values_refused limits o x metadata body id b e is (inr r) = no_values o id b r.0 metadata body refl r.1 is r.2

-- why a frame is refused
frame_refused : (limits : Limits) (σ : State) (x : List ℕ) (frame : Frame) (e : Fault) → IsFrame limits x frame
    → RefusesFrame limits σ frame e → Refuses limits σ x e
frame_refused limits None x frame e is r = no_schema_refused limits x frame e is r
frame_refused limits (Some o) x f.End e is r = absurd r
frame_refused limits (Some o) x (f.Message meta (h.Schema s) body) e is r = second_schema o s meta.items body.items r refl is
frame_refused limits (Some o) x (f.Message meta (h.Dictionary id b) body) e is r =
    values_refused limits o x meta.items body.items id b e is r
frame_refused limits (Some o) x (f.Message meta (h.Batch b pairs) body) e is r = no_rows o b pairs meta.items body.items refl is r

-- what is brought where a frame is refused
brings_refused : (limits : Limits) (σ τ : State) (frame : Frame) (e : Fault) → Brings limits σ frame τ (Err e)
    → (τ ≡ σ) × UnlessOutOfMemory e (RefusesFrame limits σ frame e)
brings_refused limits σ τ f.End e brings = brings
brings_refused limits σ τ (f.Message meta g body) e brings = brings

-- what is refused of a frame has its reason
pub frame_reason : (limits : Limits) (σ τ : State) (x : List ℕ) (frame : Frame) (e : Fault) → IsFrame limits x frame
    → Brings limits σ frame τ (Err e) → UnlessOutOfMemory e ((d : DecisionPoint) × Reason limits e d σ x)
frame_reason limits σ τ x frame e is brings = λ other.
    let falls = body_falls limits x frame is in
    (falls.0, (frame_refused limits σ x frame e is ((brings_refused limits σ τ frame e brings).1 other), falls.1))

-- no frame is refused for a failure of the source
no_read : (limits : Limits) (σ : State) (frame : Frame) → RefusesFrame limits σ frame Read → ⊥
no_read limits None frame r = absurd (let bad = r.0 in cc)
no_read limits (Some o) f.End r = r
no_read limits (Some o) (f.Message meta (h.Schema s) body) r = absurd (cc)
no_read limits (Some o) (f.Message meta (h.Dictionary id b) body) (inl r) = absurd (let bad = r.0 in cc)
no_read limits (Some o) (f.Message meta (h.Dictionary id b) body) (inr r) = r.2
no_read limits (Some o) (f.Message meta (h.Batch b pairs) body) r = r

pub not_read : (limits : Limits) (σ τ : State) (frame : Frame) (e : Fault) → Brings limits σ frame τ (Err e) → e ≢ Read
not_read limits σ τ frame e brings is =
    no_read limits σ frame ((brings_refused limits σ τ frame Read (subst (λ x. Brings limits σ frame τ (Err x)) is brings)).1
    (λ out. absurd (cc)))

-- a refusal leaves what is in force
pub refused_stays : (limits : Limits) (σ τ : State) (frame : Frame) (e : Fault) → Brings limits σ frame τ (Err e) → τ ≡ σ
refused_stays limits σ τ frame e brings = (brings_refused limits σ τ frame e brings).0
