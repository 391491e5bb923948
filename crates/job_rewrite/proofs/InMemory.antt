-- Messages that are in memory before they are sent.
use Rattle.std.proofs.Common.{◌≡◌, ◌∙◌, refl, sym, ap, subst, ℕ, ◌+◌, ◌≤◌, ◌<◌, List, [], length, arith}
use Rattle.std.proofs.Common.{Option, Some, Ok}
use Rattle.std.proofs.lemmas.List.{length-append}
use Rattle.std.specs.Io.KnownBytes.{Appends}
use Rattle.ipc_model.specs.declared.limits.Limits.{Limits}
use Rattle.ipc_model.specs.declared.schema.Schema.{Schema}
use Rattle.ipc_model.specs.declared.table.BatchRows.{BatchRows}
use Rattle.ipc_stream_read.specs.Stream.{MessageEvent, OpensStream, Run, State, done, more}
use Rattle.ipc_stream.specs.Writer.{LeavesBatch, StartsWriter, Writer}
use Rattle.ipc_stream.specs.Writing.{AcceptsBatch, Sent}
use Rattle.job_rewrite.specs.Outputs.{SendsWhole, StartsOutput}

-- what was sent to a sink in memory is what it has
pub whole_of : {IsWhole : List ℕ → Type 0} → (old new : Option (List ℕ)) (f0 f1 : ℕ) (messages : List ℕ) → old ≡ Some []
    → new ≡ Some messages → Sent IsWhole old new f0 f1 → IsWhole messages
whole_of {IsWhole} old new f0 f1 messages empty has sent =
    let same : messages ≡ sent.x = subst (λ o. Appends o (Some messages) sent.x) empty (subst (λ o. Appends old o sent.x) has sent.bytes) in
    subst IsWhole (sym same) sent.whole

-- the messages of a batch, which were in memory, were sent
pub messages_sent : (old mid new : Writer) (b : BatchRows) (messages : List ℕ) (w0 w1 : Option (List ℕ)) (f0 f1 room left : ℕ)
    → old.written ≡ Some [] → LeavesBatch old b mid (Ok tt) → AcceptsBatch old.limits old.schema b → mid.written ≡ Some messages
    → new ≡ record mid { written = Some []; failures = 0 } → room ≡ length messages + left → Appends w0 w1 messages → f0 ≡ 0 → f1 ≡ f0
    → SendsWhole (record old { written = w0; failures = f0 }) (Some room) b (record new { written = w1; failures = f1 }) (Some left)
messages_sent old mid new b messages w0 w1 f0 f1 room left empty leaves accepts has emptied counted out works still = record {
  sent = record {
    x = messages;
    whole = whole_of old.written mid.written old.failures mid.failures messages empty has leaves.1;
    bytes = out;
    worked = works;
    works = still ∙ works;
  };
  takes = counted;
  accepts = accepts;
  same_limits = ap (λ (w : Writer). w.limits) emptied ∙ leaves.3;
  same_schema = ap (λ (w : Writer). w.schema) emptied ∙ leaves.2;
  kept = ap (λ (w : Writer). w.kept) emptied ∙ leaves.5;
  works = ap (λ (w : Writer). w.failed) emptied ∙ leaves.4;
}

-- a run that reports an event has at least the 8 bytes of a message's beginning
run_long : {limits : Limits} → (σ τ : State) (x : List ℕ) (es : List MessageEvent) → Run limits σ x es τ → (es ≡ [] → ⊥) → 8 ≤ length x
run_long σ τ x es done some = absurd (some refl)
run_long σ τ x es (more {x = a} {y = y} frame step rest) some = omega (arith, frame.prefix, length-append a y)

pub opens_long : {limits : Limits} → (s : Schema) (x : List ℕ) → OpensStream limits s x → 8 ≤ length x
opens_long s x opens = run_long _ _ x _ opens (λ e. cc)

-- the message of a schema, which was in memory, was sent
pub schema_sent : (limits : Limits) (s : Schema) (old w0 w1 : Option (List ℕ)) (mid new : Writer) (message : List ℕ)
    (f f0 f1 most left : ℕ) → old ≡ Some [] → StartsWriter limits s old f mid → mid.written ≡ Some message
    → new ≡ record mid { written = Some []; failures = 0 } → most ≡ length message + 8 + left → Appends w0 w1 message
    → (0 < length message → (f0 ≡ 0) × (f1 ≡ 0))
    → StartsOutput (Some most) limits s w0 f0 (record new { written = w1; failures = f1 }) (Some left)
schema_sent limits s old w0 w1 mid new message f f0 f1 most left empty started has emptied counted out called =
    let whole = whole_of old mid.written f mid.failures message empty has started.sent in
    let long = opens_long s message whole in
    let works = called (omega (arith, long)) in
    let begun : StartsWriter limits s w0 f0 (record new { written = w1; failures = f1 }) = record {
      sent = record {
        x = message;
        whole = whole;
        bytes = out;
        worked = works.0;
        works = works.1;
      };
      accepts = started.accepts;
      same_schema = ap (λ (w : Writer). w.schema) emptied ∙ started.same_schema;
      same_limits = ap (λ (w : Writer). w.limits) emptied ∙ started.same_limits;
      nothing_kept = ap (λ (w : Writer). w.kept) emptied ∙ started.nothing_kept;
      works = ap (λ (w : Writer). w.failed) emptied ∙ started.works;
    } in
    (begun, counted)
