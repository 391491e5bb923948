-- Where a stream denotes a table, reading it breaks off only because memory ran out or for a failure of the source.
use Rattle.std.proofs.Common.{◌≡◌, ◌≢◌, ◌∙◌, refl, sym, ap, subst, ℕ, ◌⊎◌, inl, inr, List, [], ◌∷◌, ◌++◌, length, append_assoc, arith, Some}
use Rattle.std.proofs.Common.{None}
use Rattle.std.specs.Io.KnownBytes.{IsAtEnd}
use Rattle.std.specs.Prelude.{ℤ}
use Rattle.std.proofs.lemmas.List.{append-nil}
use Rattle.ipc_model.specs.declared.fault.Fault.{Fault}
use Rattle.ipc_model.specs.declared.fault.Fault.TheVariants.{OutOfMemory}
use Rattle.ipc_model.specs.declared.schema.Schema.{Schema}
use Rattle.ipc_model.specs.declared.value.Value.{Value}
use Rattle.ipc_meta.specs.declared.head.Head.{Head}
use Rattle.ipc_meta.specs.declared.head.Head.TheVariants as h
use Rattle.ipc_meta.specs.declared.head.BatchHead.{BatchHead}
use Rattle.ipc_frame.specs.Frames.{Encapsulates, Pending}
use Rattle.ipc_frame.specs.Sees.{IsFrame, RefusesStart, StatesNoHead}
use Rattle.ipc_frame.specs.Decisions.{RefusesNow}
use Rattle.ipc_frame.specs.Laws.{SameFrame}
use Rattle.ipc_frame.specs.declared.frame.Frame.{Frame}
use Rattle.ipc_frame.specs.declared.frame.Frame.TheVariants as f
use Rattle.ipc_frame.proofs.OneFrame.{frame_one, no_frame_at_end}
use Rattle.ipc_frame.proofs.Decided.{start_not_end, start_not_frame, no_head_not_end, no_head_not_frame, pending_not_end, pending_not_frame}
use Rattle.ipc_frame.proofs.Decided.{start_not_empty}
use Rattle.ipc_frame.proofs.Exact.{start_longer, no_head_longer}
use Rattle.ipc_column.specs.Rows.{Rows, RefusesParts}
use Rattle.ipc_dict_read.specs.ValuesColumns.{dictionary_columns, columns_for}
use Rattle.ipc_model.specs.declared.schema.Field.{Field}
use Rattle.ipc_column.proofs.Laws.{no_rows as none_refused}
use Rattle.ipc_stream_read.specs.Stream.{InForce, State, MessageEvent, Step, schema_message, record_batch, dictionary_batch, Run, done}
use Rattle.ipc_stream_read.specs.Stream.{more, values_in_force}
use Rattle.ipc_stream_read.specs.Reasons.{EndsReading, refused, truncated, aside, Refuses, early, no_schema, second_schema, dictionary}
use Rattle.ipc_stream_read.specs.Reasons.{no_values}
use Rattle.ipc_stream_read.specs.Reasons.{no_rows}
use Rattle.ipc_stream_read.proofs.Dictionaries.{names_none}
use Rattle.ipc_stream_read.specs.Reasons.{IsOutside, IsNoSchema}
use Rattle.ipc_stream_read.proofs.OneReading.{IsStop, frame_stop, overlap, stops_there}
use Rattle.ipc_model.specs.declared.limits.Limits.{Limits}

-- ---- a state after a step has a schema

pub step_open : {limits : Limits} → {σ τ : State} {g : Head} {body : List ℕ} {es : List MessageEvent} → Step limits σ g body es τ → τ ≢ None
step_open schema_message e = absurd (cc)
step_open (record_batch r) e = absurd (cc)
step_open (dictionary_batch found r) e = absurd (cc)

-- behind a schema in force messages leave one in force
pub run_open : {limits : Limits} → {σ τ : State} {x : List ℕ} {es : List MessageEvent} → Run limits σ x es τ → σ ≢ None → τ ≢ None
run_open done o = o
run_open (more frame step rest) o = run_open rest (step_open step)

-- messages that tell anything leave a schema in force
pub run_told : {limits : Limits} → {σ τ : State} {x : List ℕ} {es : List MessageEvent} → Run limits σ x es τ → es ≢ [] → τ ≢ None
run_told done o = absurd (o refl)
run_told (more frame step rest) o = run_open rest (step_open step)

-- ---- where a run may stop, no message is refused; z is what was taken there and b what is left

module _ (limits : Limits) (z b : List ℕ) (stop : IsStop (z ++ b)) where
  stop_start : (e : Fault) → RefusesStart limits z e → ⊥
  stop_start e r = go stop
    where
      go : IsStop (z ++ b) → ⊥
      go (inl none) = start_not_empty limits e (subst (λ x. RefusesStart limits x e) none (start_longer limits z b e r))
      go (inr (c, is)) = start_not_end limits c e (subst (λ x. RefusesStart limits x e) is (start_longer limits z b e r))

  stop_head : (e : Fault) → StatesNoHead limits z e → ⊥
  stop_head e r = go stop
    where
      go : IsStop (z ++ b) → ⊥
      go (inl none) = omega (arith, (no_head_longer z b e r).begins.prefix, ap length none)
      go (inr (c, is)) = no_head_not_end c e (subst (λ x. StatesNoHead limits x e) is (no_head_longer z b e r))

  stop_early : (e : Fault) → RefusesNow limits z e → ⊥
  stop_early e (inl r) = stop_start e r.0
  stop_early e (inr r) = stop_head e r.0

  stop_frame : (m body : List ℕ) (g : Head) → Encapsulates limits z m g body → ⊥
  stop_frame m body g frame = frame_stop z m body b (z ++ b) g frame refl stop

stop_pending : {limits : Limits} → (σ : State) (z : List ℕ) (k : ℕ) → σ ≢ None → IsStop z → Pending limits z k → (σ ≡ None) ⊎ (z ≢ []) → ⊥
stop_pending {limits} σ z k o s p (inl none) = o none
stop_pending {limits} σ z k o (inl none) p (inr some) = some none
stop_pending {limits} σ z k o (inr (c, is)) p (inr some) = pending_not_end c k (subst (λ x. Pending limits x k) is p)

stop_refused : {limits : Limits} → (σ : State) (z b : List ℕ) (e : Fault) → σ ≢ None → IsStop (z ++ b) → Refuses limits σ z e → ⊥
stop_refused {limits} σ z b e o s (early r) = stop_early limits z b s e r
stop_refused {limits} σ z b e o s (no_schema fr q none is other) = o none
stop_refused {limits} σ z b e o s (second_schema p t m body q is frame) = stop_frame limits z b s m body (h.Schema t) frame
stop_refused {limits} σ z b e o s (dictionary p id d m body q is none frame) = stop_frame limits z b s m body (h.Dictionary id d) frame
stop_refused {limits} σ z b e o s (no_values p id d columns m body is found frame refuses) =
    stop_frame limits z b s m body (h.Dictionary id d) frame
stop_refused {limits} σ z b e o s (no_rows p d ps m body is frame refuses) = stop_frame limits z b s m body (h.Batch d ps) frame

-- where a stream may stop, reading breaks off only because memory ran out or the source failed
pub stop_breaks : {limits : Limits} → (σ : State) (z b : List ℕ) (e : Fault) → σ ≢ None → IsStop (z ++ b)
    → EndsReading limits σ z (Some b) e
    → IsOutside e
stop_breaks σ z b e o s (refused r) = absurd (stop_refused σ z b e o s r)
stop_breaks σ z b e o s (truncated k is p short none) =
    absurd (stop_pending σ z k o (subst IsStop (ap (λ x. z ++ x) none ∙ append-nil z) s) p short)
stop_breaks σ z b e o s (aside why wanted) = why

-- ---- where a message takes a step, nothing is refused

schema_step : {limits : Limits} → {σ τ : State} {g : Head} {body : List ℕ} {es : List MessageEvent} → Step limits σ g body es τ → σ ≡ None
    → (s : Schema) × (g ≡ h.Schema s)
schema_step (schema_message {s = s}) e = (s, refl)
schema_step (record_batch r) e = absurd (cc)
schema_step (dictionary_batch found r) e = absurd (cc)

-- behind a schema a batch that takes a step gives rows, and a dictionary its values
abbrev StepsBy : Limits → InForce → Head → List ℕ → Type 0
StepsBy limits o (h.Schema s) body = ⊥
StepsBy limits o (h.Batch d ps) body = (rows : List (List Value)) × Rows limits (values_in_force o.dictionaries) o.schema.fields d body rows
StepsBy limits o (h.Dictionary id d) body = (columns : List Field) × (rows : List (List Value))
    × (columns_for (dictionary_columns o.schema.fields) id ≡ Some columns) × Rows limits [] columns d body rows

steps_by : {limits : Limits} → {σ τ : State} {g : Head} {body : List ℕ} {es : List MessageEvent} (o : InForce) → Step limits σ g body es τ
    → σ ≡ Some o → StepsBy limits o g body
steps_by o schema_message e = absurd (cc)
steps_by {limits} o (record_batch {o = p} {b = b} {pairs = pairs} {body = body} {rows = rows} r) e =
    let same : p ≡ o = cc in
    subst (λ q. StepsBy limits q (h.Batch b pairs) body) same (rows, r)
steps_by {limits} o (dictionary_batch {o = p} {id = id} {b = b} {body = body} {columns = columns} {rows = rows} found r) e =
    let same : p ≡ o = cc in
    subst (λ q. StepsBy limits q (h.Dictionary id b) body) same (columns, rows, found, r)

values_refused : {limits : Limits} → (o : InForce) (id : ℤ) (d : BatchHead) (columns : List Field) (body : List ℕ) (e : Fault)
    → StepsBy limits o (h.Dictionary id d) body → columns_for (dictionary_columns o.schema.fields) id ≡ Some columns
    → RefusesParts limits e [] columns d body → e ≡ OutOfMemory
values_refused {limits} o id d columns body e b found r =
    let same : b.0 ≡ columns = (let both : Some b.0 ≡ Some columns = sym b.2 ∙ found in cc) in
    none_refused e [] columns d body b.1 r (subst (λ c. Rows limits [] c d body b.1) same b.3)

-- what two lists have together where that is nothing
both_none : (es fs : List MessageEvent) → es ++ fs ≡ [] → (es ≡ []) × (fs ≡ [])
both_none [] fs h = (refl, h)
both_none (e ∷ es) fs h = absurd (cc)

-- a message x and what follows are the bytes z that were taken and those that are left
module _ {limits : Limits} (σ τ : State) (x m body u z b : List ℕ) (g : Head) (es : List MessageEvent)
    (frame : Encapsulates limits x m g body) (step : Step limits σ g body es τ)
    (joined : x ++ u ≡ z ++ b) where
  message_early : (e : Fault) → RefusesNow limits z e → ⊥
  message_early e (inl r) = start_not_frame x m body u g e frame (subst (λ y. RefusesStart limits y e) (sym joined) (start_longer limits z
      b e r.0))
  message_early e (inr r) = no_head_not_frame x m body u g e frame
      (subst (λ y. StatesNoHead limits y e) (sym joined) (no_head_longer z b e r.0))

  same_frame : (k : Head) (l other : List ℕ) → Encapsulates limits z l k other → SameFrame x z body other u b g k
  same_frame k l other q = frame_one x z m l body other u b g k frame q joined

  message_schema : (fr : Frame) → σ ≡ None → IsFrame limits z fr → IsNoSchema fr → ⊥
  message_schema f.End none is other = no_frame_at_end x m body u b g frame (joined ∙ ap (λ y. y ++ b) is)
  message_schema (f.Message meta k body') none is other =
      let s = schema_step step none in
      subst (λ q. IsNoSchema (f.Message meta q body')) (sym (same_frame k meta.items body'.items is).same_head ∙ s.1) other

  message_steps : (k : Head) (l other : List ℕ) (o : InForce) → σ ≡ Some o → Encapsulates limits z l k other → StepsBy limits o k other
  message_steps k l other o some q =
      let same = same_frame k l other q in
      subst (λ y. StepsBy limits o y other) same.same_head (subst (λ y. StepsBy limits o g y) same.same_body (steps_by o step some))

  pub message_refused : (e : Fault) → Refuses limits σ z e → e ≡ OutOfMemory
  message_refused e (early r) = absurd (message_early e r)
  message_refused e (no_schema fr q none is other) = absurd (message_schema fr none is other)
  message_refused e (second_schema o s l c q is k) = absurd (message_steps (h.Schema s) l c o is k)
  message_refused e (dictionary o id d l c q is none k) =
      let b = message_steps (h.Dictionary id d) l c o is k in
      absurd (names_none o.schema id b.0 none b.2)
  message_refused e (no_values o id d columns l c is found k r) =
      values_refused o id d columns c e (message_steps (h.Dictionary id d) l c o is k) found r
  message_refused e (no_rows o d ps l c is k r) =
      let b = message_steps (h.Batch d ps) l c o is k in
      none_refused e (values_in_force o.dictionaries) o.schema.fields d c b.0 r b.1

  message_pending : (k : ℕ) → IsAtEnd (Some b) → Pending limits z k → ⊥
  message_pending k none p =
      let all : x ++ u ≡ z = joined ∙ (ap (λ y. z ++ y) none ∙ append-nil z) in
      pending_not_frame x m body u g k frame (subst (λ y. Pending limits y k) (sym all) p)

  -- where a whole message of the stream is next, reading breaks off only because memory ran out or the source failed
  pub message_breaks : (e : Fault) → EndsReading limits σ z (Some b) e → IsOutside e
  message_breaks e (refused r) = inr (message_refused e r)
  message_breaks e (truncated k is p short none) = absurd (message_pending k none p)
  message_breaks e (aside why wanted) = why

-- where a run goes on, reading does not break off, unless memory ran out or the source failed
goes_on : {limits : Limits} → {σ τ : State} {x : List ℕ} {es : List MessageEvent} (u z b : List ℕ) (e : Fault) → Run limits σ x es τ
    → EndsReading limits σ z (Some b) e → z ++ b ≡ x ++ u → ((σ ≡ τ) × (es ≡ []) × (z ++ b ≡ u)) ⊎ IsOutside e
goes_on u z b e done r eq = inl (refl, refl, eq)
goes_on u z b e (more {σ = σ} {τ = τ} {x = x} {metadata = m} {body = body} {y = y} {h = g} {es = es} frame step rest) r eq =
    inr (message_breaks σ τ x m body (y ++ u) z b g es frame step (sym (append_assoc x y u) ∙ sym eq) e r)

-- two readings of the same bytes: one to where a run may stop, the other to where it breaks off
pub run_breaks : {limits : Limits} → {σ τ υ : State} {x y : List ℕ} {es fs : List MessageEvent} (a z b : List ℕ) (e : Fault)
    → Run limits σ x es τ → Run limits σ y fs υ → τ ≢ None → IsStop a → EndsReading limits υ z (Some b) e → x ++ a ≡ y ++ (z ++ b)
    → IsOutside e
run_breaks {limits} {τ = τ} {υ = υ} a z b e p q o s r eq =
    let stopped : τ ≡ υ → a ≡ z ++ b → IsOutside e = λ state rest.
    stop_breaks υ z b e (subst (λ x. x ≢ None) state o) (subst IsStop rest s) r in
    elim (overlap a (z ++ b) p q eq) [
      | inl g ↦ let same = stops_there g s in stopped same.state same.rest
      | inr g ↦ elim (goes_on a z b e g.run r g.rest) [ inl same ↦ stopped (sym same.0) (sym same.2) | inr out ↦ out ]
    ]

-- two readings of the same bytes: one tells something, and the other tells nothing and breaks off
pub told_breaks : {limits : Limits} → {σ τ υ : State} {x y : List ℕ} {es fs : List MessageEvent} (u z b : List ℕ) (e : Fault)
    → Run limits σ x es τ → es ≢ [] → Run limits σ y fs υ → fs ≡ [] → EndsReading limits υ z (Some b) e → x ++ u ≡ y ++ (z ++ b)
    → IsOutside e
told_breaks {es = es} {fs = fs} u z b e p some q none r eq = elim (overlap u (z ++ b) p q eq) [
  | inl g ↦ absurd (some (both_none es g.events (sym g.told ∙ none)).0)
  | inr g ↦ elim (goes_on u z b e g.run r g.rest) [
    | inl same ↦ absurd (some (g.told ∙ (ap (λ l. l ++ g.events) none ∙ same.1)))
    | inr out ↦ out
  ]
]
