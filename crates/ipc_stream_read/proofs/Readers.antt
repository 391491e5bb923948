-- What the calls of a reader say.
use Rattle.std.proofs.Common.{◌≡◌, ◌≢◌, ◌∙◌, refl, sym, ap, subst, ℕ, ◌-◌, ◌^◌, ◌≤◌, length, List, [], ◌∷◌, Option, None, Some, Ok}
use Rattle.std.proofs.Common.{Err, Result, arith, ◌++◌}
use Rattle.std.specs.Prelude.{IsSome, MatchResult}
use Rattle.std.specs.Io.KnownBytes.{Consumes}
use Rattle.std.proofs.KnownBytes.{Consumes-trans}
use Rattle.ipc_model.specs.declared.fault.Fault.{Fault}
use Rattle.ipc_model.specs.declared.limits.Limits.{Limits}
use Rattle.ipc_stream_read.specs.declared.end.End.{End}
use Rattle.ipc_stream_read.specs.declared.end.End.TheVariants.{Closed, Mark}
use Rattle.ipc_stream_read.specs.declared.event.Event.{Event}
use Rattle.ipc_stream_read.specs.declared.event.Event.TheVariants as report
use Rattle.ipc_stream_read.specs.Counts.{count_up, messages_in}
use Rattle.ipc_frame.specs.Pieces.{Wants}
use Rattle.ipc_stream_read.specs.Decoding.{Decoding, Stage, ReportsLastEvent, ReportsOneEvent, taking, over, refused, progress_at}
use Rattle.ipc_stream_read.specs.Found.{ReadRows, batch_rows}
use Rattle.ipc_stream_read.specs.Reader.{EndsAfter, LeadsTo, NextAnswer, NextCall, OpenFails, Opens, Reader, WorksWhile}
use Rattle.ipc_stream_read.specs.Reader.{KeepsNone, Reading, dictionaries_in_force, in_force_of, phase_of, schema_in}
use Rattle.ipc_stream_read.specs.Failures.{CountsFault, FailsAs}
use Rattle.ipc_stream_read.specs.Held.{CountsStop, HeldAfter, HeldInAll, HeldSoFar, KeepsWithin, WouldHold, as_fault, fault_of}
use Rattle.ipc_stream_read.specs.declared.read_stop.ReadStop.{ReadStop}
use Rattle.ipc_stream_read.specs.declared.read_stop.ReadStop.TheVariants as stop
use Rattle.ipc_stream_read.specs.ReadBatches.{IsReadFrom}
use Rattle.ipc_stream_read.specs.Reasons.{Ends, NeedsMemory, Reads}
use Rattle.ipc_stream_read.specs.Stream.{State, MessageEvent, schema, batch, Run, initial_state}
use Rattle.ipc_stream_read.specs.Taken.{Pulls, StopsAt, Takes, TakesSchema}
use Rattle.ipc_stream_read.proofs.Held.{keeps_then}
use Rattle.ipc_stream_read.proofs.Nexts.{mark_stops, no_second, run_closed, run_keeps, schema_broken, schema_first, schema_read}
use Rattle.ipc_stream_read.proofs.Nexts.{step_schema}
use Rattle.ipc_stream_read.proofs.PulledEvents.{PullsWithin}
use Rattle.ipc_stream_read.proofs.Reasons.{run_open}
use Rattle.ipc_stream_read.proofs.Runs.{run_then, told_run}

-- what a reader is, by its source, its decoder and the bytes that were counted
abbrev pub reader_of : Option (List ℕ) → ℕ → ℕ → Decoding → ℕ → Reader
reader_of remaining failures bound d taken = record {
  remaining = remaining;
  failures = failures;
  bound = bound;
  limits = d.limits;
  schema = schema_in d.state;
  dictionaries = dictionaries_in_force d.state;
  phase = phase_of d.stage;
  messages = d.messages;
  taken = taken;
}

-- what is in force where something is
some_is : (σ : State) → σ ≢ None → σ ≡ Some (record { schema = schema_in σ; dictionaries = dictionaries_in_force σ })
some_is None some = absurd (some refl)
some_is (Some o) some = refl

-- what `next` answers of what was pulled
abbrev pub found_of : Result (Option Event) Fault → Result (Option ReadRows) Fault
found_of (Ok (Some (report.Batch found pairs))) = Ok (Some (found, pairs))
found_of (Ok found) = Ok None
found_of (Err fault) = Err fault

-- a run of so many messages, and what they tell last
abbrev CountedRun : Limits → State → List ℕ → State → ℕ → Type 0
CountedRun limits σ x τ n = (r : Run limits σ x [] τ) × (messages_in r ≡ n)

abbrev CountedLast : Limits → State → List ℕ → MessageEvent → State → ℕ → Type 0
CountedLast limits σ x e τ n = (t : ReportsLastEvent limits σ x e τ) × (messages_in t.run ≡ n)

module _ (old new : Option (List ℕ)) (f0 f1 b0 b1 n0 n1 : ℕ) (before after : Decoding) (some : before.state ≢ None)
    (reading : phase_of before.stage ≡ Reading) (same_limits : after.limits ≡ before.limits) where
  abbrev reader : Reader
  reader = reader_of old f0 b0 before n0

  abbrev now : Reader
  now = reader_of new f1 b1 after n1

  abbrev Call : Result (Option ReadRows) Fault → Type 0
  Call r = NextCall reader now r

  leads : (x : List ℕ) (e : MessageEvent) → ReportsOneEvent before after x e → LeadsTo reader now x e
  leads x e t =
      let open_after = run_open (told_run before.state after.state x e t.last) some in
      let from = subst (λ σ. CountedLast before.limits σ x e after.state (messages_in t.last.run)) (some_is before.state some)
      (t.last, refl) in
      let all = subst (λ τ. CountedLast before.limits (Some (in_force_of reader)) x e τ (messages_in t.last.run))
      (some_is after.state open_after) from in
      record { last = all.0; messages = omega (arith, t.counted, all.1) }

  behind : (x : List ℕ) (stage : Stage) (answer : Result End Fault) → StopsAt before after x new stage answer
      → EndsAfter reader now x answer
  behind x stage answer h =
      let run = h.reaches.reached.run in
      let open_after = run_open run some in
      let from = subst (λ σ. CountedRun before.limits σ h.reaches.reached.whole after.state (messages_in run)) (some_is before.state some)
      (run, refl) in
      let all = subst (λ τ. CountedRun before.limits (Some (in_force_of reader)) h.reaches.reached.whole τ (messages_in run))
      (some_is after.state open_after) from in
      record {
        whole = h.reaches.reached.whole;
        rest = h.rest;
        joined = h.reaches.reached.joined;
        run = all.0;
        ends = subst (λ τ. Ends before.limits τ h.rest new answer) (some_is after.state open_after) h.ends;
        memory = h.memory;
        messages = omega (arith, h.reaches.counted, all.1);
      }

  -- the phases of both are these
  at_phases : (x : List ℕ) (r : Result (Option ReadRows) Fault) (stage : Stage) → after.stage ≡ stage
      → NextAnswer reader now Reading x r (phase_of stage) → NextAnswer reader now reader.phase x r now.phase
  at_phases x r stage is h =
      subst (λ p. NextAnswer reader now p x r now.phase) (sym reading)
      (subst (λ s. NextAnswer reader now Reading x r (phase_of s)) (sym is) h)

  ends_at : (x : List ℕ) (end : End) → Takes old new n0 n1 x → StopsAt before after x new (over end) (Ok end) → Call (Ok None)
  ends_at x end takes h = record {
    x = x;
    bytes = takes.bytes;
    gives = at_phases x (Ok None) (over end) h.at (behind x (over end) (Ok end) h);
    same_schema = (run_keeps h.reaches.reached.run some).in_state;
    same_limits = same_limits;
    counted = takes.counted;
  }

  -- what is pulled is what the reader answers
  pub next_answers : (r : Result (Option Event) Fault) → Pulls old new n0 n1 before after r → Call (found_of r)
  next_answers (Ok (Some report.Schema)) t = absurd (no_second before after t.x some t.gives)
  next_answers (Ok (Some (report.Batch found pairs))) t =
      let b = batch (batch_rows (found, pairs)) in
      record {
        x = t.x;
        bytes = t.takes.bytes;
        gives = at_phases t.x (Ok (Some (found, pairs))) (taking []) t.gives.0.stage (
          leads t.x b t.gives.0,
          subst (λ σ. IsReadFrom before.limits σ t.x found) (some_is before.state some) t.gives.1,
        );
        same_schema = (run_keeps (told_run before.state after.state t.x b t.gives.0.last) some).in_state;
        same_limits = same_limits;
        counted = t.takes.counted;
      }
  next_answers (Ok (Some report.End)) t = ends_at t.x Mark t.takes (mark_stops before after t.x new t.gives)
  next_answers (Ok None) t = ends_at t.x Closed t.takes t.gives
  next_answers (Err e) t = record {
    x = t.x;
    bytes = t.takes.bytes;
    gives = at_phases t.x (Err e) refused t.gives.at (behind t.x refused (Err e) t.gives);
    same_schema = (run_keeps t.gives.reaches.reached.run some).in_state;
    same_limits = same_limits;
    counted = t.takes.counted;
  }

-- the same of a reader that is so
pub seen_answers : (most : Option ℕ) (old new : Option (List ℕ)) (f0 f1 b0 b1 n0 n1 : ℕ) (before after : Decoding)
    (some : before.state ≢ None)
    (reading : phase_of before.stage ≡ Reading) (same_limits : after.limits ≡ before.limits) (o : Reader)
    → reader_of old f0 b0 before n0 ≡ o → (q r : Result (Option Event) ReadStop) → q ≡ r
    → PullsWithin most old new n0 n1 before after q → NextCall o (reader_of new f1 b1 after n1) (found_of (as_fault r))
seen_answers most old new f0 f1 b0 b1 n0 n1 before after some reading same_limits o seen q r is t =
    subst (λ p. NextCall p (reader_of new f1 b1 after n1) (found_of (as_fault r))) seen
    (next_answers old new f0 f1 b0 b1 n0 n1 before after some reading same_limits (as_fault r)
    (subst (PullsWithin most old new n0 n1 before after) is t).0)

-- what a reader keeps between two calls
pub record Ready (failures taken : ℕ) (d : Decoding) : Type 0 where
  pub is_open : d.state ≢ None
  pub between : KeepsNone d.stage
  pub works : WorksWhile d.stage failures
  pub counted : d.messages ≤ 2 ^ 64 - 1
  pub taken_counted : taken ≤ 2 ^ 64 - 1

module _ (old new : Option (List ℕ)) (f0 f1 n0 n1 : ℕ) (before after : Decoding) (some : before.state ≢ None) where
  stopped : (x : List ℕ) (stage : Stage) (answer : Result End Fault) → StopsAt before after x new stage answer
      → phase_of stage ≢ Reading → n1 ≤ 2 ^ 64 - 1 → Ready f1 n1 after
  stopped x stage answer h over_now fits = record {
    is_open = run_open h.reaches.reached.run some;
    between = λ z is. absurd (over_now (ap phase_of (sym h.at ∙ is)));
    works = λ z is. absurd (over_now (ap phase_of (sym h.at ∙ is)));
    counted = omega (arith, h.reaches.counted);
    taken_counted = fits;
  }

  -- it does so behind what was pulled
  pub ready : (r : Result (Option Event) Fault) → Pulls old new n0 n1 before after r → FailsAs f0 f1 r → Ready f1 n1 after
  ready (Ok (Some report.Schema)) t fails = absurd (no_second before after t.x some t.gives)
  ready (Ok (Some (report.Batch found pairs))) t fails = record {
    is_open = run_open (told_run before.state after.state t.x (batch (batch_rows (found, pairs))) t.gives.0.last) some;
    between = λ z is. let same : taking [] ≡ taking z = sym t.gives.0.stage ∙ is in let none : [] ≡ z = cc in sym none;
    works = λ z is. fails.1;
    counted = omega (arith, t.gives.0.counted);
    taken_counted = omega (arith, t.takes.counted);
  }
  ready (Ok (Some report.End)) t fails =
      stopped t.x (over Mark) (Ok Mark) (mark_stops before after t.x new t.gives) (λ is. absurd (cc)) (omega (arith, t.takes.counted))
  ready (Ok None) t fails = stopped t.x (over Closed) (Ok Closed) t.gives (λ is. absurd (cc)) (omega (arith, t.takes.counted))
  ready (Err e) t fails = stopped t.x refused (Err e) t.gives (λ is. absurd (cc)) (omega (arith, t.takes.counted))

-- it does so where it stopped too
pub ready_stopped : (old new : Option (List ℕ)) (f0 f1 n0 n1 : ℕ) (before after : Decoding) → before.state ≢ None
    → (q : Result (Option Event) ReadStop) → Pulls old new n0 n1 before after (as_fault q)
    → MatchResult q (λ _. (f0 ≡ 0) × (f1 ≡ 0)) (CountsStop f0 f1) → Ready f1 n1 after
ready_stopped old new f0 f1 n0 n1 before after some (Ok found) t works = ready old new f0 f1 n0 n1 before after some (Ok found) t works
ready_stopped old new f0 f1 n0 n1 before after some (Err why) t works =
    stopped old new f0 f1 n0 n1 before after some t.x refused (Err (fault_of why)) t.gives (λ is. absurd (cc)) (omega (
      arith,
      t.takes.counted,
    ))

-- where some are wanted, it reads
pub wants_some : (limits : Limits) (s : Stage) (k : ℕ) → Wants limits (progress_at s) k → (k ≡ 0 → ⊥) → phase_of s ≡ Reading
wants_some limits (taking z) k w some = refl
wants_some limits (over end) k w some = absurd (some w)
wants_some limits refused k w some = absurd (some w)

-- while a reader reads, its source works
pub reading_works : (stage : Stage) (failures : ℕ) → phase_of stage ≡ Reading → WorksWhile stage failures → failures ≡ 0
reading_works (taking z) failures is works = works z refl
reading_works (over end) failures is works = absurd (cc)
reading_works refused failures is works = absurd (cc)

-- a reader is opened behind the schema's message
pub opens : (old new : Option (List ℕ)) (f b n0 n1 : ℕ) (before after : Decoding) (limits : Limits) → n0 ≡ 0 → before.limits ≡ limits
    → TakesSchema old new n0 n1 before after (Ok tt) → Opens limits old (reader_of new f b after n1)
opens old new f b n0 n1 before after limits none same t = record {
  x = t.x;
  bytes = t.takes.bytes;
  run = subst (λ l. Run l None t.x (schema (schema_in after.state) ∷ [])
      (Some (record { schema = schema_in after.state; dictionaries = dictionaries_in_force after.state }))) same
      (subst (λ (d : Decoding). Run before.limits None t.x (schema (schema_in d.state) ∷ [])
      (Some (record { schema = schema_in d.state; dictionaries = dictionaries_in_force d.state }))) (sym t.gives.2) t.gives.1);
  no_dictionary = ap (λ d. dictionaries_in_force d.state) t.gives.2;
  same_limits = ap (λ d. d.limits) t.gives.2 ∙ same;
  fresh = ap (λ d. phase_of d.stage) t.gives.2;
  one_message = ap (λ d. d.messages) t.gives.2;
  counted = t.takes.counted ∙ ap (λ n. count_up n (length t.x)) none;
}

-- or is not
pub open_fails : (old new : Option (List ℕ)) (n0 n1 : ℕ) (before after : Decoding) (limits : Limits) (e : Fault) → before.limits ≡ limits
    → TakesSchema old new n0 n1 before after (Err e) → OpenFails limits old new e
open_fails old new n0 n1 before after limits e same t =
    let both = subst (λ l. (r : Reads l None t.x new [] (Err e)) × NeedsMemory l r.rest (Err e)) same t.gives in
    record { x = t.x; bytes = t.takes.bytes; reads = both.0; memory = both.1 }

-- ---- what a reader holds

-- a reader with any number of bytes doesn't stop for them
pub no_maximum : {limits : Limits} → (σ : State) (x : List ℕ) → WouldHold limits None σ x → ⊥
no_maximum σ x w = w.above tt

-- where it stopped for them, there is a maximum
pub has_maximum : {limits : Limits} → (most : Option ℕ) (old new : Option (List ℕ)) (stops : Type 0) → HeldInAll limits most old new stops
    → stops → most ≢ None
has_maximum {limits} most old new stops h s none =
    no_maximum None h.x (subst (λ m. WouldHold limits m None h.x) none (h.keeps.above s))

-- where it stops for fewer reasons, more would be held too
pub all_held : {limits : Limits} → (most : Option ℕ) (old new : Option (List ℕ)) {stops ends : Type 0} → (ends → stops)
    → HeldInAll limits most old new stops → HeldInAll limits most old new ends
all_held most old new means h = record {
  x = h.x;
  bytes = h.bytes;
  keeps = record { within = h.keeps.within; above = λ s. h.keeps.above (means s) };
}

-- what was held stays within a maximum where no more is taken
pub still_held : {limits : Limits} → (most : Option ℕ) (start : Option (List ℕ)) (r : Reader) (stops : Type 0) → (stops → ⊥)
    → HeldSoFar limits most start r → HeldInAll limits most start r.remaining stops
still_held most start r stops none h = record {
  x = h.x;
  bytes = h.bytes;
  keeps = record { within = h.within; above = λ s. absurd (none s) };
}

-- what `next_within` answers of what was pulled
abbrev pub found_within : Result (Option Event) ReadStop → Result (Option ReadRows) ReadStop
found_within (Ok (Some (report.Batch found pairs))) = Ok (Some (found, pairs))
found_within (Ok found) = Ok None
found_within (Err why) = Err why

module _ (most : Option ℕ) (old new : Option (List ℕ)) (f0 f1 b0 b1 n0 n1 : ℕ) (before after : Decoding) (some : before.state ≢ None)
    (limits : Limits) (start : Option (List ℕ))
    (h : HeldSoFar limits most start (reader_of old f0 b0 before n0)) where
  abbrev now_held : Reader
  now_held = reader_of new f1 b1 after n1

  keeps_here : (x : List ℕ) (stops : Type 0) → KeepsWithin before.limits most before.state x stops
      → KeepsWithin limits most None (h.x ++ x) stops
  keeps_here x stops keeps =
      let here = subst (λ l. KeepsWithin l most before.state x stops) h.same_limits keeps in
      keeps_then most None (Some (in_force_of (reader_of old f0 b0 before n0))) h.x x h.events stops h.within h.run
      (subst (λ σ. KeepsWithin limits most σ x stops) (some_is before.state some) here)

  in_all : (x : List ℕ) (stops ends : Type 0) → (ends → stops) → Consumes old new x
      → KeepsWithin before.limits most before.state x stops → HeldInAll limits most start new ends
  in_all x stops ends means bytes keeps =
      let all = keeps_here x stops keeps in
      record {
        x = h.x ++ x;
        bytes = Consumes-trans start old new h.x x h.bytes bytes;
        keeps = record { within = all.within; above = λ s. all.above (means s) };
      }

  so_far : (x : List ℕ) (e : MessageEvent) (stops : Type 0) → after.limits ≡ before.limits → ReportsOneEvent before after x e
      → Consumes old new x
      → KeepsWithin before.limits most before.state x stops → HeldSoFar limits most start now_held
  so_far x e stops same_limits t bytes keeps =
      let run = told_run before.state after.state x e t.last in
      let open_after = run_open run some in
      let from = subst (λ σ. Run before.limits σ x (e ∷ []) after.state) (some_is before.state some) run in
      let both = subst (λ τ. Run before.limits (Some (in_force_of (reader_of old f0 b0 before n0))) x (e ∷ []) τ)
      (some_is after.state open_after) from in
      let here = subst (λ l. Run l (Some (in_force_of (reader_of old f0 b0 before n0))) x (e ∷ []) (Some (in_force_of now_held)))
      h.same_limits both in
      record {
        x = h.x ++ x;
        bytes = Consumes-trans start old new h.x x h.bytes bytes;
        events = h.events ++ e ∷ [];
        run = run_then None (Some (in_force_of (reader_of old f0 b0 before n0))) (Some (in_force_of now_held)) h.x x h.events (e ∷ []) h.run
            here;
        within = (keeps_here x stops keeps).within;
        same_limits = same_limits ∙ h.same_limits;
      }

  held_after : (q : Result (Option Event) ReadStop) → after.limits ≡ before.limits → PullsWithin most old new n0 n1 before after q
      → HeldAfter limits most start now_held (found_within q)
  held_after (Ok (Some report.Schema)) same (t, keeps) = absurd (no_second before after t.x some t.gives)
  held_after (Ok (Some (report.Batch found pairs))) same (t, keeps) =
      so_far t.x (batch (batch_rows (found, pairs))) _ same t.gives.0 t.takes.bytes keeps
  held_after (Ok (Some report.End)) same (t, keeps) = in_all t.x _ _ (λ bad. absurd (cc)) t.takes.bytes keeps
  held_after (Ok None) same (t, keeps) = in_all t.x _ _ (λ bad. absurd (cc)) t.takes.bytes keeps
  held_after (Err why) same (t, keeps) =
      in_all t.x _ _ (λ is. let held : why ≡ stop.Held = cc in ap Err held) t.takes.bytes keeps

-- the same of a reader that is so
pub seen_held : (most : Option ℕ) (old new : Option (List ℕ)) (f0 f1 b0 b1 n0 n1 : ℕ) (before after : Decoding) (some : before.state ≢ None)
    (limits : Limits) (start : Option (List ℕ)) (o : Reader) → reader_of old f0 b0 before n0 ≡ o → after.limits ≡ before.limits
    → (q r : Result (Option Event) ReadStop) → q ≡ r → PullsWithin most old new n0 n1 before after q → HeldSoFar limits most start o
    → HeldAfter limits most start (reader_of new f1 b1 after n1) (found_within r)
seen_held most old new f0 f1 b0 b1 n0 n1 before after some limits start o seen same q r is t h =
    held_after most old new f0 f1 b0 b1 n0 n1 before after some limits start (subst (HeldSoFar limits most start) (sym seen) h) r same
    (subst (PullsWithin most old new n0 n1 before after) is t)

-- ---- what it holds of the schema's message

module _ (most : Option ℕ) (old new : Option (List ℕ)) (n0 n1 : ℕ) (before after : Decoding) (limits : Limits)
    (same_limits : after.limits ≡ before.limits) (fresh : before.limits ≡ limits)
    (none : before.state ≡ None) (zero_messages : before.messages ≡ 0) where
  keeps_first : (x : List ℕ) (stops : Type 0) → KeepsWithin before.limits most before.state x stops → KeepsWithin limits most None x stops
  keeps_first x stops keeps =
      subst (λ l. KeepsWithin l most None x stops) fresh (subst (λ σ. KeepsWithin before.limits most σ x stops) none keeps)

  pub opens_stopped : (q : Result (Option Event) ReadStop) (why : ReadStop) → q ≡ Err why
      → PullsWithin most old new n0 n1 before after q → OpenFails limits old new (fault_of why)
  opens_stopped q why is t =
      let here = subst (PullsWithin most old new n0 n1 before after) is t in
      open_fails old new n0 n1 before after limits (fault_of why) fresh
      (schema_broken old new n0 n1 before after same_limits none zero_messages (fault_of why) here.0)

  pub stopped_held : (q : Result (Option Event) ReadStop) (why : ReadStop) → q ≡ Err why
      → PullsWithin most old new n0 n1 before after q → HeldInAll limits most old new (why ≡ stop.Held)
  stopped_held q why is t =
      let here = subst (PullsWithin most old new n0 n1 before after) is t in
      let keeps = keeps_first here.0.x _ here.1 in
      record {
        x = here.0.x;
        bytes = here.0.takes.bytes;
        keeps = record { within = keeps.within; above = λ held. keeps.above (ap Err held) };
      }

  -- the event is the schema's
  first_here : (q : Result (Option Event) ReadStop) (found : Option Event) → q ≡ Ok found
      → PullsWithin most old new n0 n1 before after q → PullsWithin most old new n0 n1 before after (Ok (Some report.Schema))
  first_here q found is t =
      let here = subst (PullsWithin most old new n0 n1 before after) is t in
      subst (λ f. PullsWithin most old new n0 n1 before after (Ok f))
      (schema_first old new n0 n1 before after same_limits none zero_messages found here.0) here

  pub opens_some : (q : Result (Option Event) ReadStop) (found : Option Event) → q ≡ Ok found
      → PullsWithin most old new n0 n1 before after q → IsSome found
  opens_some q found is t =
      let here = subst (PullsWithin most old new n0 n1 before after) is t in
      subst IsSome (sym (schema_first old new n0 n1 before after same_limits none zero_messages found here.0)) refl

  -- the decoder is between two messages then
  pub opened_ready : (f0 f1 : ℕ) (q : Result (Option Event) ReadStop) (found : Option Event) → q ≡ Ok found
      → PullsWithin most old new n0 n1 before after q → MatchResult q (λ _. (f0 ≡ 0) × (f1 ≡ 0)) (CountsStop f0 f1) → Ready f1 n1 after
  opened_ready f0 f1 q found is t works =
      let h = schema_read old new n0 n1 before after same_limits none zero_messages (first_here q found is t).0 in
      let now = h.gives.2 in
      let worked = subst (λ r. MatchResult r (λ _. (f0 ≡ 0) × (f1 ≡ 0)) (CountsStop f0 f1)) is works in
      record {
        is_open = λ bad. let same : Some (initial_state h.gives.0) ≡ None = sym (ap (λ d. d.state) now) ∙ bad in cc;
        between = λ z at.
            let same : taking [] ≡ taking z = sym (ap (λ d. d.stage) now) ∙ at in
            let empty : [] ≡ z = cc in sym empty;
        works = λ z at. worked.1;
        counted = let one = ap (λ d. d.messages) now in omega (arith, one);
        taken_counted = omega (arith, h.takes.counted);
      }

  pub opens_within : (f b : ℕ) (q : Result (Option Event) ReadStop) (found : Option Event) → q ≡ Ok found → n0 ≡ 0
      → PullsWithin most old new n0 n1 before after q → Opens limits old (reader_of new f b after n1)
  opens_within f b q found is zero t =
      opens old new f b n0 n1 before after limits zero fresh
      (schema_read old new n0 n1 before after same_limits none zero_messages (first_here q found is t).0)

  pub opened_held : (f b : ℕ) (q : Result (Option Event) ReadStop) (found : Option Event) → q ≡ Ok found
      → PullsWithin most old new n0 n1 before after q → HeldSoFar limits most old (reader_of new f b after n1)
  opened_held f b q found is t =
      let here = first_here q found is t in
      let s = here.0.gives.0 in
      let h = here.0.gives.1 in
      let run = told_run before.state after.state here.0.x (schema s) h.last in
      let nothing = run_closed h.last.run none refl in
      let now = step_schema s h.last.report.step nothing.1 refl in
      record {
        x = here.0.x;
        bytes = here.0.takes.bytes;
        events = schema s ∷ [];
        run = subst (λ l. Run l None here.0.x (schema s ∷ []) (Some (in_force_of (reader_of new f b after n1)))) fresh
            (subst (λ τ. Run before.limits None here.0.x (schema s ∷ []) τ) (some_is after.state (λ bad. absurd (cc (bad, now))))
            (subst (λ σ. Run before.limits σ here.0.x (schema s ∷ []) after.state) none run));
        within = (keeps_first here.0.x _ here.1).within;
        same_limits = same_limits ∙ fresh;
      }

-- a reader with any number of bytes stops for a fault alone
pub counts_fault : (f0 f1 : ℕ) (why : ReadStop) → (why ≡ stop.Held → ⊥) → CountsStop f0 f1 why → CountsFault f0 f1 (fault_of why)
counts_fault f0 f1 (stop.Refused fault) other h = h
counts_fault f0 f1 stop.Held other h = absurd (other refl)
