-- What a call of a reader answers where a message, or an end, is at the front of what its source gives.
use Rattle.std.proofs.Common.{◌≡◌, ◌∙◌, refl, sym, ap, subst, ℕ, inl, inr, List, [], ◌∷◌, ◌++◌, Option, Some, None, Result, Ok, Err}
use Rattle.std.proofs.Common.{append_assoc}
use Rattle.std.specs.Prelude.{MatchResult}
use Rattle.std.specs.Io.KnownBytes.{Consumes}
use Rattle.ipc_model.specs.declared.fault.Fault.{Fault}
use Rattle.ipc_model.specs.declared.schema.Schema.{Schema}
use Rattle.ipc_model.specs.declared.table.BatchRows.{BatchRows}
use Rattle.ipc_frame.specs.Frames.{end_of_stream}
use Rattle.ipc_stream_read.specs.Found.{ReadRows, batch_rows}
use Rattle.ipc_stream_read.specs.declared.end.End.{End}
use Rattle.ipc_stream_read.specs.declared.end.End.TheVariants.{Mark, Closed}
use Rattle.ipc_stream_read.specs.Reader as phase
use Rattle.ipc_stream_read.specs.Reader.{BeginsEnd, EndsAfter, GivesBatch, LeadsTo, NextAnswer, NextCall, Opens, OpenFails, Reader}
use Rattle.ipc_stream_read.specs.Reader.{StreamPhase, in_force_of}
use Rattle.ipc_stream_read.specs.Reasons.{Ends, IsOutside, Reads}
use Rattle.ipc_stream_read.specs.Stream.{MessageEvent, InForce, Run, State, batch, schema}
use Rattle.ipc_stream_read.specs.Stream.{OpensStream, SetsOnly, DenotesOneBatch}
use Rattle.ipc_stream_read.proofs.OneReading.{IsStop, one_run, overlap, stops_there}
use Rattle.ipc_stream_read.proofs.Reasons.{run_breaks, told_breaks}
use Rattle.ipc_stream_read.proofs.Runs.{told_run}
use Rattle.ipc_model.specs.declared.limits.Limits.{Limits}

-- ---- the first event of a run

-- two runs over the same bytes tell one first event
pub first_same : {limits : Limits} → {σ τ υ : State} {x y : List ℕ} {es fs : List MessageEvent} (u v : List ℕ) (d e : MessageEvent)
    (ds gs : List MessageEvent) → Run limits σ x es τ → Run limits σ y fs υ → es ≡ d ∷ ds → fs ≡ e ∷ gs → x ++ u ≡ y ++ v → d ≡ e
first_same u v d e ds gs p q here there joined = elim (overlap u v p q joined) [
  | inl g ↦ let both : e ∷ gs ≡ d ∷ (ds ++ g.events) = sym there ∙ (g.told ∙ ap (λ l. l ++ g.events) here) in cc
  | inr g ↦ let both : d ∷ ds ≡ e ∷ (gs ++ g.events) = sym here ∙ (g.told ∙ ap (λ l. l ++ g.events) there) in cc
]

-- where a run tells an event, none that tells nothing comes to where it may stop
pub run_not_end : {limits : Limits} → {σ τ υ : State} {x y : List ℕ} {es fs : List MessageEvent} (u a : List ℕ) (d : MessageEvent)
    (ds : List MessageEvent)
    → Run limits σ x es τ → Run limits σ y fs υ → es ≡ d ∷ ds → fs ≡ [] → IsStop a → x ++ u ≡ y ++ a → ⊥
run_not_end u a d ds p q here none stop joined = elim (overlap u a p q joined) [
  | inl g ↦ let bad : [] ≡ d ∷ (ds ++ g.events) = sym none ∙ (g.told ∙ ap (λ l. l ++ g.events) here) in absurd (cc)
  | inr g ↦ let bad : [] ≡ d ∷ ds = sym none ∙ ((stops_there g stop).events ∙ here) in absurd (cc)
]

-- where reading ends by itself, a run may stop
ends_stop : (limits : Limits) (σ : State) (z b : List ℕ) (end : End) → Ends limits σ z (Some b) (Ok end) → IsStop (z ++ b)
ends_stop limits σ z b Mark h = inr (b, ap (λ y. y ++ b) h.0)
ends_stop limits σ z b Closed h = inl (ap (λ y. y ++ b) h.0 ∙ h.2)

-- the bytes that are left where they are known
known : (y z : List ℕ) (old new : Option (List ℕ)) → old ≡ Some y → Consumes old new z → (b : List ℕ) × (new ≡ Some b) × (y ≡ z ++ b)
known y z old None is h = absurd (subst (λ o. Consumes o None z) is h)
known y z old (Some b) is h = (b, refl, subst (λ o. Consumes o (Some b) z) is h)

-- ---- the schema

-- where a stream with this schema is at the front of the source, a reader that is opened has this schema
pub opens_schema : {limits : Limits} → (old : Option (List ℕ)) (new : Reader) (x rest : List ℕ) (s : Schema) → Opens limits old new
    → old ≡ Some (x ++ rest)
    → OpensStream limits s x → new.schema ≡ s
opens_schema old new x rest s h is o =
    let k = known (x ++ rest) h.x old new.remaining is h.bytes in
    let one : schema s ≡ schema new.schema = first_same rest k.0 (schema s) (schema new.schema) [] [] o h.run refl refl k.2 in
    cc

-- where a stream with a schema is at the front, opening fails only where memory runs out or the source fails
pub opens_fails : {limits : Limits} → (old new : Option (List ℕ)) (fault : Fault) (x rest : List ℕ) (s : Schema)
    → OpenFails limits old new fault → old ≡ Some (x ++ rest) → OpensStream limits s x → IsOutside fault
opens_fails {limits} old new fault x rest s h is o =
    let k = known (x ++ rest) h.x old new is h.bytes in
    let reads = subst (λ left. Reads limits None h.x left [] (Err fault)) k.1 h.reads in
    let joined : x ++ rest ≡ reads.whole ++ (reads.rest ++ k.0) =
    k.2 ∙ (ap (λ y. y ++ k.0) reads.joined ∙ append_assoc reads.whole reads.rest k.0) in
    told_breaks rest reads.rest k.0 fault o (λ none. absurd (cc)) reads.run refl reads.ends joined

-- ---- what a call answers while the stream is read

abbrev pub ReadGives : Reader → Reader → List ℕ → Result (Option ReadRows) Fault → StreamPhase → Type 0
ReadGives old new x (Ok (Some found)) p = LeadsTo old new x (batch (batch_rows found))
ReadGives old new x (Ok None) p = (end : End) × (p ≡ phase.Ended end) × EndsAfter old new x (Ok end)
ReadGives old new x (Err fault) p = EndsAfter old new x (Err fault)

gives_by : (old new : Reader) (x : List ℕ) (r : Result (Option ReadRows) Fault) (p : StreamPhase) → NextAnswer old new phase.Reading x r p
    → ReadGives old new x r p
gives_by old new x (Ok (Some found)) phase.Reading h = h.0
gives_by old new x (Ok (Some found)) (phase.Ended end) h = absurd h
gives_by old new x (Ok (Some found)) phase.Refused h = absurd h
gives_by old new x (Ok None) phase.Reading h = absurd h
gives_by old new x (Ok None) (phase.Ended end) h = (end, refl, h)
gives_by old new x (Ok None) phase.Refused h = absurd h
gives_by old new x (Err fault) phase.Reading h = absurd h
gives_by old new x (Err fault) (phase.Ended end) h = absurd h
gives_by old new x (Err fault) phase.Refused h = h

pub read_gives : (old new : Reader) (r : Result (Option ReadRows) Fault) (h : NextCall old new r) → old.phase ≡ phase.Reading
    → ReadGives old new h.x r new.phase
read_gives old new r h reading = gives_by old new h.x r new.phase (subst (λ p. NextAnswer old new p h.x r new.phase) reading h.gives)

-- ---- a batch

module _ (old new : Reader) (x u z b : List ℕ) (rows : BatchRows) (τ : State)
    (tells : Run old.limits (Some (in_force_of old)) x (batch rows ∷ []) τ) (left : new.remaining ≡ Some b) (joined : x ++ u ≡ z ++ b) where
  abbrev RowsOr : Result (Option ReadRows) Fault → Type 0
  RowsOr r = MatchResult r (λ found. GivesBatch found rows) IsOutside

  ends_now : (answer : Result End Fault) (h : EndsAfter old new z answer)
      → Ends old.limits (Some (in_force_of new)) h.rest (Some b) answer
  ends_now answer h = subst (λ l. Ends old.limits (Some (in_force_of new)) h.rest l answer) left h.ends

  bytes_now : (answer : Result End Fault) (h : EndsAfter old new z answer) → x ++ u ≡ h.whole ++ (h.rest ++ b)
  bytes_now answer h = joined ∙ (ap (λ y. y ++ b) h.joined ∙ append_assoc h.whole h.rest b)

  gives_batch : (r : Result (Option ReadRows) Fault) (p : StreamPhase) → ReadGives old new z r p → RowsOr r
  gives_batch (Ok (Some found)) p h =
      let run = told_run (Some (in_force_of old)) (Some (in_force_of new)) z (batch (batch_rows found)) h.last in
      let one : batch rows ≡ batch (batch_rows found) =
      first_same u b (batch rows) (batch (batch_rows found)) [] [] tells run refl refl joined in
      let same : batch_rows found ≡ rows = cc in same
  gives_batch (Ok None) p h =
      absurd (run_not_end u (h.2.rest ++ b) (batch rows) [] tells h.2.run refl refl
      (ends_stop old.limits (Some (in_force_of new)) h.2.rest b h.0 (ends_now (Ok h.0) h.2)) (bytes_now (Ok h.0) h.2))
  gives_batch (Err fault) p h =
      told_breaks u h.rest b fault tells (λ none. absurd (cc)) h.run refl (ends_now (Err fault) h) (bytes_now (Err fault) h)

-- where messages that tell a batch are next, the call gives its rows, unless memory runs out or the source fails
pub next_batch : (old new : Reader) (r : Result (Option ReadRows) Fault) (x rest : List ℕ) (rows : BatchRows) → NextCall old new r
    → old.phase ≡ phase.Reading → old.remaining ≡ Some (x ++ rest) → DenotesOneBatch old.limits (in_force_of old) rows x
    → MatchResult r (λ found. GivesBatch found rows) IsOutside
next_batch old new r x rest rows h reading is tells =
    let k = known (x ++ rest) h.x old.remaining new.remaining is h.bytes in
    gives_batch old new x rest h.x k.0 rows tells.0 tells.1 k.1 k.2 r new.phase (read_gives old new r h reading)

-- ---- an end

stop_at : (end : End) (z : List ℕ) → BeginsEnd end z → IsStop z
stop_at Mark z h = inr h
stop_at Closed z h = inl h

-- an end at the front of some bytes is the one that is read
same_end : (limits : Limits) (σ : State) (z b : List ℕ) (end other : End) → BeginsEnd end (z ++ b) → Ends limits σ z (Some b) (Ok other)
    → phase.Ended other ≡ phase.Ended end
same_end limits σ z b Mark Mark h e = refl
same_end limits σ z b Closed Closed h e = refl
same_end limits σ z b Mark Closed h e =
    let none : end_of_stream ++ h.0 ≡ [] = sym h.1 ∙ (ap (λ y. y ++ b) e.0 ∙ e.2) in absurd (cc)
same_end limits σ z b Closed Mark h e =
    let none : end_of_stream ++ b ≡ [] = sym (ap (λ y. y ++ b) e.0) ∙ h in absurd (cc)

module _ (old new : Reader) (x u z b : List ℕ) (o : InForce) (end : End)
    (only : Run old.limits (Some (in_force_of old)) x [] (Some o)) (left : new.remaining ≡ Some b) (begins : BeginsEnd end u)
    (joined : x ++ u ≡ z ++ b) where
  ends_there : (answer : Result End Fault) (h : EndsAfter old new z answer)
      → Ends old.limits (Some (in_force_of new)) h.rest (Some b) answer
  ends_there answer h = subst (λ l. Ends old.limits (Some (in_force_of new)) h.rest l answer) left h.ends

  bytes_there : (answer : Result End Fault) (h : EndsAfter old new z answer) → x ++ u ≡ h.whole ++ (h.rest ++ b)
  bytes_there answer h = joined ∙ (ap (λ y. y ++ b) h.joined ∙ append_assoc h.whole h.rest b)

  gives_end : (r : Result (Option ReadRows) Fault) (p : StreamPhase) → ReadGives old new z r p
      → MatchResult r (λ found. (found ≡ None) × (p ≡ phase.Ended end)) IsOutside
  gives_end (Ok (Some found)) p h =
      let run = told_run (Some (in_force_of old)) (Some (in_force_of new)) z (batch (batch_rows found)) h.last in
      absurd (run_not_end b u (batch (batch_rows found)) [] run only refl refl (stop_at end u begins) (sym joined))
  gives_end (Ok None) p h =
      let ends = ends_there (Ok h.0) h.2 in
      let one = one_run u (h.2.rest ++ b) only h.2.run (stop_at end u begins)
      (ends_stop old.limits (Some (in_force_of new)) h.2.rest b h.0 ends) (bytes_there (Ok h.0) h.2) in
      (refl, h.1 ∙ same_end old.limits (Some (in_force_of new)) h.2.rest b end h.0 (subst (BeginsEnd end) one.rest begins) ends)
  gives_end (Err fault) p h =
      run_breaks u h.rest b fault only h.run (λ none. absurd (cc)) (stop_at end u begins) (ends_there (Err fault) h)
      (bytes_there (Err fault) h)

-- where the end is next, behind dictionaries alone, the reader comes to that end, unless memory runs out or the source fails
pub next_end : (old new : Reader) (r : Result (Option ReadRows) Fault) (x z : List ℕ) (o : InForce) (end : End) → NextCall old new r
    → old.phase ≡ phase.Reading → old.remaining ≡ Some (x ++ z) → SetsOnly old.limits (in_force_of old) x o → BeginsEnd end z
    → MatchResult r (λ found. (found ≡ None) × (new.phase ≡ phase.Ended end)) IsOutside
next_end old new r x z o end h reading is only begins =
    let k = known (x ++ z) h.x old.remaining new.remaining is h.bytes in
    gives_end old new x z h.x k.0 o end only k.1 begins k.2 r new.phase (read_gives old new r h reading)
