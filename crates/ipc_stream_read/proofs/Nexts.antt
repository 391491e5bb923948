-- What is read next of a stream, by what was pulled.
use Rattle.std.proofs.Common.{◌≡◌, ◌≢◌, ◌∙◌, refl, ap, subst, ℕ, List, [], ◌∷◌, Option, Some, None, Result, Ok, Err, length, arith}
use Rattle.ipc_model.specs.declared.fault.Fault.{Fault}
use Rattle.ipc_model.specs.declared.limits.Limits.{Limits}
use Rattle.ipc_model.specs.declared.schema.Schema.{Schema}
use Rattle.ipc_model.specs.declared.table.BatchRows.{BatchRows}
use Rattle.ipc_meta.specs.declared.head.Head.{Head}
use Rattle.ipc_column.specs.Contents.{Contents}
use Rattle.ipc_frame.specs.Frames.{end_of_stream}
use Rattle.ipc_stream_read.specs.declared.end.End.{End}
use Rattle.ipc_stream_read.specs.declared.end.End.TheVariants.{Mark}
use Rattle.ipc_stream_read.specs.declared.event.Event.{Event}
use Rattle.ipc_stream_read.specs.declared.event.Event.TheVariants as report
use Rattle.ipc_stream_read.specs.Decoding.{Decoding, Stage, taking, over, refused, HasColumns, Reaches, ReportsEvent, schema_of}
use Rattle.ipc_stream_read.specs.Found.{batch_rows}
use Rattle.ipc_stream_read.specs.Reader.{schema_in}
use Rattle.ipc_stream_read.specs.Reasons.{NeedsMemory, Reads}
use Rattle.ipc_stream_read.specs.Stream.{State, MessageEvent, schema, batch, Step, schema_message, record_batch, dictionary_batch, Run}
use Rattle.ipc_stream_read.specs.Stream.{done, more, initial_state}
use Rattle.ipc_stream_read.specs.Taken.{Pulls, StopsAt, TakesSchema}
use Rattle.ipc_stream_read.proofs.Reasons.{run_open, step_open}
use Rattle.ipc_stream_read.proofs.Runs.{messages_none, told_run}

-- ---- what messages leave in force

-- both keep the schema
pub record SameSchema (σ τ : State) : Type 0 where
  pub of_state : schema_of τ ≡ schema_of σ
  pub in_state : schema_in τ ≡ schema_in σ

step_keeps : {limits : Limits} → {σ τ : State} {g : Head} {body : List ℕ} {es : List MessageEvent} → Step limits σ g body es τ → σ ≢ None
    → SameSchema σ τ
step_keeps schema_message some = absurd (some refl)
step_keeps (record_batch r) some = record { of_state = refl; in_state = refl }
step_keeps (dictionary_batch found r) some = record { of_state = refl; in_state = refl }

-- the schema in force stays
pub run_keeps : {limits : Limits} → {σ τ : State} {x : List ℕ} {es : List MessageEvent} → Run limits σ x es τ → σ ≢ None → SameSchema σ τ
run_keeps done some = record { of_state = refl; in_state = refl }
run_keeps (more frame step rest) some =
    let here = step_keeps step some in
    let behind = run_keeps rest (step_open step) in
    record { of_state = behind.of_state ∙ here.of_state; in_state = behind.in_state ∙ here.in_state }

-- messages that tell nothing are none before a schema
pub run_closed : {limits : Limits} → {σ τ : State} {x : List ℕ} {es : List MessageEvent} → Run limits σ x es τ → σ ≡ None → es ≡ []
    → (x ≡ []) × (τ ≡ None)
run_closed done none is = (refl, none)
run_closed (more {fs = fs} frame (schema_message {s = t}) rest) none is = absurd (cc)
run_closed (more frame (record_batch r) rest) none is = absurd (cc)
run_closed (more frame (dictionary_batch found r) rest) none is = absurd (cc)

-- a message before a schema tells the schema that it puts in force
pub step_schema : {limits : Limits} → {σ τ : State} {g : Head} {body : List ℕ} {es : List MessageEvent} (s : Schema)
    → Step limits σ g body es τ → σ ≡ None → es ≡ schema s ∷ [] → τ ≡ Some (initial_state s)
step_schema s (schema_message {s = t}) none is = let same : t ≡ s = cc in ap (λ u. Some (initial_state u)) same
step_schema s (record_batch r) none is = absurd (cc)
step_schema s (dictionary_batch found r) none is = absurd (cc)

-- a batch comes behind a schema alone, and no schema does
step_no_batch : {limits : Limits} → {σ τ : State} {g : Head} {body : List ℕ} {es : List MessageEvent} (b : BatchRows)
    → Step limits σ g body es τ → σ ≡ None → es ≡ batch b ∷ [] → ⊥
step_no_batch b schema_message none is = absurd (cc)
step_no_batch b (record_batch r) none is = absurd (cc)
step_no_batch b (dictionary_batch found r) none is = absurd (cc)

step_no_schema : {limits : Limits} → {σ τ : State} {g : Head} {body : List ℕ} {es : List MessageEvent} (s : Schema)
    → Step limits σ g body es τ → σ ≢ None → es ≡ schema s ∷ [] → ⊥
step_no_schema s schema_message some is = some refl
step_no_schema s (record_batch r) some is = absurd (cc)
step_no_schema s (dictionary_batch found r) some is = absurd (cc)

-- what stops behind messages that tell nothing is read
abbrev pub stops_reads : (old new : Decoding) (x : List ℕ) (left : Option (List ℕ)) (stage : Stage) (r : Result End Fault)
    → StopsAt old new x left stage r → Reads old.limits old.state x left [] r
stops_reads old new x left stage r h = record {
  state = new.state;
  whole = h.reaches.reached.whole;
  rest = h.rest;
  joined = h.reaches.reached.joined;
  run = h.reaches.reached.run;
  ends = h.ends;
}

decoding_is : (d : Decoding) (l : Limits) (s : State) (g : Stage) (m : ℕ) → d.limits ≡ l → d.state ≡ s → d.stage ≡ g → d.messages ≡ m
    → d ≡ record { limits = l; state = s; stage = g; messages = m; room = d.room }
decoding_is d l s g m a b c e =
    ap (λ x. record { limits = x; state = d.state; stage = d.stage; messages = d.messages; room = d.room }) a
    ∙ (ap (λ x. record { limits = l; state = x; stage = d.stage; messages = d.messages; room = d.room }) b
    ∙ (ap (λ x. record { limits = l; state = s; stage = x; messages = d.messages; room = d.room }) c
    ∙ ap (λ x. record { limits = l; state = s; stage = g; messages = x; room = d.room }) e))

-- ---- behind the schema

-- the end mark that is pulled ends the stream
pub mark_stops : (before after : Decoding) (x : List ℕ) (left : Option (List ℕ)) → ReportsEvent before after x report.End
    → StopsAt before after x left (over Mark) (Ok Mark)
mark_stops before after x left h = record { rest = end_of_stream; reaches = h.0; ends = (refl, h.1); memory = tt; at = h.2 }

-- no second schema is told
pub no_second : (before after : Decoding) (x : List ℕ) → before.state ≢ None → ReportsEvent before after x report.Schema → ⊥
no_second before after x some h = step_no_schema h.0 h.1.last.report.step (run_open h.1.last.run some) refl

-- a batch has a column for each field
pub next_columns : (before after : Decoding) (x : List ℕ) (found : Contents) (pairs : List (List ℕ × List ℕ)) → before.state ≢ None
    → ReportsEvent before after x (report.Batch found pairs) → HasColumns after.state (report.Batch found pairs)
    → found.columns ≡ length (schema_in before.state).fields
next_columns before after x found pairs some h columns =
    let run = told_run before.state after.state x (batch (batch_rows (found, pairs))) h.0.last in
    columns_of after.state (run_open run some) columns ∙ ap (λ s. length s.fields) (run_keeps run some).in_state
  where
    columns_of : (σ : State) → σ ≢ None → HasColumns σ (report.Batch found pairs) → found.columns ≡ length (schema_in σ).fields
    columns_of None some h = absurd (some refl)
    columns_of (Some o) some h = h

-- what was pulled is what an equal answer says
pub pulls_at : (old new : Option (List ℕ)) (n0 n1 : ℕ) (before after : Decoding) (r q : Result (Option Event) Fault) → r ≡ q
    → Pulls old new n0 n1 before after r → Pulls old new n0 n1 before after q
pulls_at old new n0 n1 before after r q is p = subst (Pulls old new n0 n1 before after) is p

-- ---- the schema

module _ (old new : Option (List ℕ)) (n0 n1 : ℕ) (before after : Decoding) (same_limits : after.limits ≡ before.limits)
    (none : before.state ≡ None) (zero_messages : before.messages ≡ 0) where
  -- a schema that is pulled is in force
  pub schema_read : Pulls old new n0 n1 before after (Ok (Some report.Schema)) → TakesSchema old new n0 n1 before after (Ok tt)
  schema_read p =
      let s = p.gives.0 in
      let h = p.gives.1 in
      let nothing = run_closed h.last.run none refl in
      let now = step_schema s h.last.report.step nothing.1 refl in
      record {
        x = p.x;
        takes = p.takes;
        gives = (
          s,
          subst (λ σ. Run before.limits None p.x (schema s ∷ []) σ) now
              (subst (λ σ. Run before.limits σ p.x (schema s ∷ []) after.state) none
              (told_run before.state after.state p.x (schema s) h.last)),
          decoding_is after before.limits (Some (initial_state s)) (taking []) 1 same_limits now h.stage
              (omega (arith, zero_messages, h.counted, messages_none h.last.run nothing.0)),
        );
      }

  -- or what is refused
  pub schema_broken : (e : Fault) → Pulls old new n0 n1 before after (Err e) → TakesSchema old new n0 n1 before after (Err e)
  schema_broken e p = record {
    x = p.x;
    takes = p.takes;
    gives = subst (λ σ. (r : Reads before.limits σ p.x new [] (Err e)) × NeedsMemory before.limits r.rest (Err e)) none
        (stops_reads before after p.x new refused (Err e) p.gives, p.gives.memory);
  }

  nothing_open : {x rest : List ℕ} → Reaches before after x [] rest → after.state ≢ None → ⊥
  nothing_open h some = some (run_closed h.reached.run none refl).1

  -- nothing else comes first
  pub schema_first : (found : Option Event) → Pulls old new n0 n1 before after (Ok found) → found ≡ Some report.Schema
  schema_first None p = absurd (nothing_open p.gives.reaches p.gives.ends.1)
  schema_first (Some report.Schema) p = refl
  schema_first (Some (report.Batch found pairs)) p =
      let last = p.gives.0.last in
      absurd (step_no_batch (batch_rows (found, pairs)) last.report.step (run_closed last.run none refl).1 refl)
  schema_first (Some report.End) p = absurd (nothing_open p.gives.0 p.gives.1)
