-- The batches of a table, one after another.
use Rattle.std.proofs.Common.{◌≡◌, ◌≢◌, ◌∙◌, refl, sym, subst, ℕ, ◌≤◌, ◌-◌, ◌^◌, inr, arith, List, [], ◌∷◌, ◌++◌, map, Option, Some, None}
use Rattle.std.proofs.Common.{Ok, Err, Result, ap}
use Rattle.std.specs.Io.KnownBytes.{Consumes}
use Rattle.std.proofs.KnownBytes.{Consumes-nil, Consumes-trans}
use Rattle.std.proofs.lemmas.List.{append-nil, map-append}
use Rattle.ipc_model.specs.declared.fault.Fault.{Fault}
use Rattle.ipc_model.specs.declared.fault.Fault.TheVariants.{OutOfMemory}
use Rattle.ipc_model.specs.declared.limits.Limits.{Limits}
use Rattle.ipc_model.specs.declared.schema.Schema.{Schema}
use Rattle.ipc_model.specs.declared.table.BatchRows.{BatchRows}
use Rattle.ipc_column.specs.Contents.{Contents}
use Rattle.ipc_frame.proofs.Sized.{frame_sized}
use Rattle.ipc_stream_read.specs.declared.end.End.{End}
use Rattle.ipc_stream_read.specs.declared.event.Event.TheVariants as report
use Rattle.ipc_stream_read.specs.Decoding.{Decoding, ReportsLastEvent, Stage, schema_of, taking, over, refused}
use Rattle.ipc_stream_read.specs.Found.{batch_rows}
use Rattle.ipc_stream_read.specs.Stream.{State, MessageEvent, schema, batch, Run, done, initial_state}
use Rattle.ipc_stream_read.specs.Reasons as reasons
use Rattle.ipc_stream_read.specs.Reasons.{Breaks, Reads}
use Rattle.ipc_stream_read.specs.Taken.{Pulls, RunsOut, StopsAt, Takes, TakesBatches, TakesSchema, TakesTable}
use Rattle.ipc_stream_read.proofs.Nexts.{run_keeps, stops_reads}
use Rattle.ipc_stream_read.proofs.Prefixes.{undecided_frame}
use Rattle.ipc_stream_read.proofs.Reasons.{run_open}
use Rattle.ipc_stream_read.proofs.Runs.{breaks_after, run_then, reads_after, told_run}

-- memory ran out for the event of the last message
no_memory : {limits : Limits} → (σ τ : State) (x : List ℕ) (left : Option (List ℕ)) (e : MessageEvent) → ReportsLastEvent limits σ x e τ
    → Breaks limits σ x left [] OutOfMemory
no_memory σ τ x left e t =
    let m = t.report in (
      record {
        state = t.between;
        whole = t.silent;
        rest = t.message;
        joined = t.joined;
        run = t.run;
        ends = reasons.aside (inr refl) (undecided_frame t.message m.metadata m.body m.head m.frame);
      },
      λ out. frame_sized t.message m.metadata m.body m.head m.frame,
    )

-- these batches were read
pub record Batches (old now : Option (List ℕ)) (failed_old failed taken : ℕ) (before decoder : Decoding) (batches : List BatchRows)
    : Type 0 where
  pub was_open : before.state ≢ None
  pub still_open : decoder.state ≢ None
  pub same_limits : decoder.limits ≡ before.limits
  pub same_schema : schema_of decoder.state ≡ schema_of before.state
  pub between : decoder.stage ≡ taking []
  pub counted : decoder.messages ≤ 2 ^ 64 - 1
  pub within : taken ≤ 2 ^ 64 - 1
  pub x : List ℕ
  pub bytes : Consumes old now x
  pub run : Run before.limits before.state x (map batch batches) decoder.state
  pub same : failed ≡ failed_old

-- behind the schema no batch was read yet
pub batches_none : (source : Option (List ℕ)) (failed taken : ℕ) (decoder : Decoding) (batches : List BatchRows) → decoder.state ≢ None
    → decoder.stage ≡ taking [] → decoder.messages ≤ 2 ^ 64 - 1
    → taken ≤ 2 ^ 64 - 1 → batches ≡ [] → Batches source source failed failed taken decoder decoder batches
batches_none source failed taken decoder batches some between counted within none =
    subst (Batches source source failed failed taken decoder decoder) (sym none) (record {
      was_open = some;
      still_open = some;
      same_limits = refl;
      same_schema = refl;
      between = between;
      counted = counted;
      within = within;
      x = [];
      bytes = Consumes-nil source;
      run = done;
      same = refl;
    })

module _ (old now new : Option (List ℕ)) (f0 f1 n1 n2 : ℕ) (before decoder after : Decoding) (batches : List BatchRows)
    (b : Batches old now f0 f1 n1 before decoder batches) (same_limits : after.limits ≡ decoder.limits) where
  -- reading that stops behind some batches
  reads_here : (stage : Stage) (end : Result End Fault) (x : List ℕ) → StopsAt decoder after x new stage end
      → Reads before.limits before.state (b.x ++ x) new (map batch batches ++ []) end
  reads_here stage end x t =
      reads_after before.state decoder.state b.x x new (map batch batches) [] end b.run
      (subst (λ l. Reads l decoder.state x new [] end) b.same_limits (stops_reads decoder after x new stage end t))

  -- so does reading that breaks off there
  breaks_here : (e : Fault) (x : List ℕ) → Breaks decoder.limits decoder.state x new [] e
      → Breaks before.limits before.state (b.x ++ x) new (map batch batches ++ []) e
  breaks_here e x h =
      breaks_after before.state decoder.state b.x x new (map batch batches) [] e b.run
      (subst (λ l. Breaks l decoder.state x new [] e) b.same_limits h)

  -- where a fault is read behind some batches, it is answered
  pub batches_broken : (e : Fault) → Pulls now new n1 n2 decoder after (Err e) → TakesBatches old new before (Err e)
  batches_broken e t = record {
    x = b.x ++ t.x;
    bytes = Consumes-trans old now new b.x t.x b.bytes t.takes.bytes;
    gives = (map batch batches ++ [], breaks_here e t.x (stops_reads decoder after t.x new refused (Err e) t.gives, t.gives.memory));
  }

  -- where the end is read behind some batches, they are all, and the schema stays in force
  module _ (end : End) (x : List ℕ) (takes : Takes now new n1 n2 x) (t : StopsAt decoder after x new (over end) (Ok end)) where
    pub batches_ended : TakesBatches old new before (Ok (batches, end))
    batches_ended = record {
      x = b.x ++ x;
      bytes = Consumes-trans old now new b.x x b.bytes takes.bytes;
      gives = subst (λ es. Reads before.limits before.state (b.x ++ x) new es (Ok end)) (append-nil (map batch batches))
          (reads_here (over end) (Ok end) x t);
    }

    pub ended_stays : schema_of after.state ≡ schema_of before.state
    ended_stays = (run_keeps t.reaches.reached.run b.still_open).of_state ∙ b.same_schema

  module _ (found : Contents) (pairs : List (List ℕ × List ℕ))
      (t : Pulls now new n1 n2 decoder after (Ok (Some (report.Batch found pairs)))) where
    -- the batches so far, and one more
    abbrev all : List BatchRows
    all = batches ++ (batch_rows (found, pairs) ∷ [])

    run_now : Run decoder.limits decoder.state t.x (batch (batch_rows (found, pairs)) ∷ []) after.state
    run_now = told_run decoder.state after.state t.x (batch (batch_rows (found, pairs))) t.gives.0.last

    run_all : Run before.limits before.state (b.x ++ t.x) (map batch all) after.state
    run_all =
        subst (λ es. Run before.limits before.state (b.x ++ t.x) es after.state)
        (sym (map-append batch batches (batch_rows (found, pairs) ∷ [])))
        (run_then before.state decoder.state after.state b.x t.x (map batch batches) (batch (batch_rows (found, pairs)) ∷ []) b.run
        (subst (λ l. Run l decoder.state t.x (batch (batch_rows (found, pairs)) ∷ []) after.state) b.same_limits run_now))

    -- memory ran out for the rows of a batch that was read
    pub batches_full : TakesBatches old new before (Err OutOfMemory)
    batches_full = record {
      x = b.x ++ t.x;
      bytes = Consumes-trans old now new b.x t.x b.bytes t.takes.bytes;
      gives = (
        map batch batches ++ [],
        breaks_here OutOfMemory t.x
            (no_memory decoder.state after.state t.x new (batch (batch_rows (found, pairs))) t.gives.0.last),
      );
    }

    -- where one batch more is read, the batches that were read are those from before and it
    pub batches_more : (f2 : ℕ) (kept : List BatchRows) → (f1 ≡ 0) × (f2 ≡ 0) → kept ≡ all → Batches old new f0 f2 n2 before after kept
    batches_more f2 kept works is = subst (Batches old new f0 f2 n2 before after) (sym is) (record {
      was_open = b.was_open;
      still_open = run_open run_now b.still_open;
      same_limits = same_limits ∙ b.same_limits;
      same_schema = (run_keeps run_now b.still_open).of_state ∙ b.same_schema;
      between = t.gives.0.stage;
      counted = omega (arith, t.gives.0.counted);
      within = omega (arith, t.takes.counted);
      x = b.x ++ t.x;
      bytes = Consumes-trans old now new b.x t.x b.bytes t.takes.bytes;
      run = run_all;
      same = works.1 ∙ (sym works.0 ∙ b.same);
    })

-- ---- the whole table

module _ (old now new : Option (List ℕ)) (n0 n1 : ℕ) (before opened : Decoding) (limits : Limits) (same : before.limits ≡ limits)
    (t : TakesSchema old now n0 n1 before opened (Ok tt)) where
  abbrev s : Schema
  s = t.gives.0

  -- what is in force is the schema
  pub schema_is : (σ : State) (u : Schema) → schema_of σ ≡ Some u → schema_of σ ≡ schema_of opened.state → u ≡ t.gives.0
  schema_is σ u found stays =
      let both : Some u ≡ Some t.gives.0 = sym found ∙ (stays ∙ ap (λ d. schema_of d.state) t.gives.2) in cc

  reads_all : (x : List ℕ) (es : List MessageEvent) (end : Result End Fault) → Reads opened.limits opened.state x new es end
      → Reads limits None (t.x ++ x) new (schema s ∷ es) end
  reads_all x es end reads =
      subst (λ l. Reads l None (t.x ++ x) new (schema s ∷ es) end) same
      (reads_after None (Some (initial_state s)) t.x x new (schema s ∷ []) es end t.gives.1
      (subst (λ (d : Decoding). Reads d.limits d.state x new es end) t.gives.2 reads))

  -- behind the schema reading broke off
  pub table_broken : (e : Fault) → TakesBatches now new opened (Err e) → TakesTable limits old new (Err e)
  table_broken e b = record {
    x = t.x ++ b.x;
    bytes = Consumes-trans old now new t.x b.x t.takes.bytes b.bytes;
    gives = (schema s ∷ b.gives.0, reads_all b.x b.gives.0 (Err e) b.gives.1.0);
  }

  breaks_all : (x : List ℕ) (es : List MessageEvent) (e : Fault) → Breaks opened.limits opened.state x new es e
      → Breaks limits None (t.x ++ x) new (schema s ∷ es) e
  breaks_all x es e breaks =
      subst (λ l. Breaks l None (t.x ++ x) new (schema s ∷ es) e) same
      (breaks_after None (Some (initial_state s)) t.x x new (schema s ∷ []) es e t.gives.1
      (subst (λ (d : Decoding). Breaks d.limits d.state x new es e) t.gives.2 breaks))

  -- maybe for want of memory
  pub table_full : (e : Fault) → TakesBatches now new opened (Err e) → e ≡ OutOfMemory → RunsOut limits old new
  table_full e b is = record {
    x = t.x ++ b.x;
    bytes = Consumes-trans old now new t.x b.x t.takes.bytes b.bytes;
    events = schema s ∷ b.gives.0;
    breaks = subst (Breaks limits None (t.x ++ b.x) new (schema s ∷ b.gives.0)) is (breaks_all b.x b.gives.0 e b.gives.1);
  }

  -- the schema and its batches are the table
  pub table_read : (batches : List BatchRows) (end : End) (u : Schema) → u ≡ s → TakesBatches now new opened (Ok (batches, end))
      → TakesTable limits old new (Ok (record { schema = u; batches = batches }, end))
  table_read batches end u is b = record {
    x = t.x ++ b.x;
    bytes = Consumes-trans old now new t.x b.x t.takes.bytes b.bytes;
    gives = subst (λ v. Reads limits None (t.x ++ b.x) new (schema v ∷ map batch batches) (Ok end)) (sym is)
        (reads_all b.x (map batch batches) (Ok end) b.gives);
  }

-- or before the schema was read
pub schema_full : (old new : Option (List ℕ)) (n0 n1 : ℕ) (before opened : Decoding) (limits : Limits) → before.limits ≡ limits
    → (e : Fault)
    → TakesSchema old new n0 n1 before opened (Err e) → e ≡ OutOfMemory → RunsOut limits old new
schema_full old new n0 n1 before opened limits same e t is = record {
  x = t.x;
  bytes = t.takes.bytes;
  events = [];
  breaks = subst (Breaks limits None t.x new []) is (subst (λ l. Breaks l None t.x new [] e) same t.gives);
}
