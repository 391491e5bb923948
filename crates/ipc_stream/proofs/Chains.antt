-- What is in force along the batches of a stream, one after another.
use Rattle.std.proofs.Common.{◌≡◌, ◌∙◌, refl, sym, ap, subst, ℕ, zero, suc, take, List, [], ◌∷◌, ◌++◌, map, Some, None}
use Rattle.std.proofs.Common.{append_assoc}
use Rattle.std.proofs.lemmas.List.{append-nil, map-append}
use Rattle.ipc_model.specs.declared.limits.Limits.{Limits}
use Rattle.ipc_model.specs.declared.schema.Field.{Field}
use Rattle.ipc_model.specs.declared.schema.Schema.{Schema}
use Rattle.ipc_model.specs.declared.table.BatchRows.{BatchRows}
use Rattle.ipc_dict.specs.declared.kept.KeptEntry.{KeptEntry}
use Rattle.ipc_dict.specs.SchemaIds.{ids_of}
use Rattle.ipc_dict.specs.Sending.{sent_after}
use Rattle.ipc_dict.proofs.Sending.{sent_unsent}
use Rattle.ipc_stream_read.specs.Stream.{MessageEvent, schema, batch, initial_state, Run, done, OpensStream}
use Rattle.ipc_stream_read.proofs.Runs.{run_then}
use Rattle.ipc_model.specs.declared.table.Table.{Table}
use Rattle.ipc_stream.specs.Dictionaries.{IsInForce, SendsBatch, SendsBatches, SendsTable, DenotesBatches, DenotesTable, kept_after}
use Rattle.ipc_stream.specs.Dictionaries.{kept_at_start}
use Rattle.ipc_stream.specs.Dictionaries.{sends_none, sends_more}

-- behind the schema's message nothing is in force, and nothing was sent
pub begun_in_force : (s : Schema) → IsInForce s (kept_at_start s) (initial_state s)
begun_in_force s = record {
  schema_is = refl;
  values_are = λ id. sym (sent_unsent (ids_of s.fields) id);
}

-- what was sent once batches were and then others
pub kept_then : (fields : List Field) (kept : List KeptEntry) (front more : List BatchRows)
    → kept_after fields kept (front ++ more) ≡ kept_after fields (kept_after fields kept front) more
kept_then fields kept [] more = refl
kept_then fields kept (b ∷ front) more = kept_then fields (sent_after fields b.rows kept) front more

module _ (limits : Limits) (s : Schema) where
  -- messages that tell batches, and behind them some that tell others
  tells_then : (kept : List KeptEntry) (front more : List BatchRows) (x y : List ℕ) → DenotesBatches limits s kept front x
      → DenotesBatches limits s (kept_after s.fields kept front) more y → DenotesBatches limits s kept (front ++ more) (x ++ y)
  tells_then kept front more x y first next = λ o force.
      let a = first o force in
      let b = next a.0 a.1.0 in (
        b.0,
        (
          subst (λ k. IsInForce s k b.0) (sym (kept_then s.fields kept front more)) b.1.0,
          subst (λ (es : List MessageEvent). Run limits (Some o) (x ++ y) es (Some b.0)) (sym (map-append batch front more))
              (run_then (Some o) (Some a.0) (Some b.0) x y (map batch front) (map batch more) a.1.1 b.1.1),
        ),
      )

  -- the messages of batches tell them
  pub batches_tell : (kept : List KeptEntry) (batches : List BatchRows) (x : List ℕ) → SendsBatches limits s kept batches x
      → DenotesBatches limits s kept batches x
  batches_tell kept batches x sends_none = λ o force. (o, (force, done))
  batches_tell kept batches x (sends_more {b = b} {batches = rest} {x = u} {y = v} first next) =
      tells_then kept (b ∷ []) rest u v first.in_turn (batches_tell (sent_after s.fields b.rows kept) rest v next)

  -- those of one more
  pub batches_more : (kept : List KeptEntry) (batches : List BatchRows) (b : BatchRows) (x y : List ℕ)
      → SendsBatches limits s kept batches x
      → SendsBatch limits s (kept_after s.fields kept batches) b y → SendsBatches limits s kept (batches ++ b ∷ []) (x ++ y)
  batches_more kept batches b x y sends_none last = subst (SendsBatches limits s kept (b ∷ [])) (append-nil y) (sends_more last sends_none)
  batches_more kept batches b x y (sends_more {b = a} {batches = rest} {x = u} {y = v} first next) last =
      subst (SendsBatches limits s kept (a ∷ rest ++ b ∷ [])) (sym (append_assoc u v y))
      (sends_more first (batches_more (sent_after s.fields a.rows kept) rest b v y next last))

  -- the schema's message is that of a table without batches
  pub schema_sends : (x : List ℕ) → OpensStream limits s x → SendsTable limits (record { schema = s; batches = [] }) x
  schema_sends x opens = record { front = x; rest = []; bytes = sym (append-nil x); opens = opens; sends = sends_none }

  -- the messages of a table with one batch more
  pub table_more : (batches : List BatchRows) (b : BatchRows) (x y : List ℕ)
      → SendsTable limits (record { schema = s; batches = batches }) x
      → SendsBatch limits s (kept_after s.fields (kept_at_start s) batches) b y
      → SendsTable limits (record { schema = s; batches = batches ++ b ∷ [] }) (x ++ y)
  table_more batches b x y first next = record {
    front = first.front;
    rest = first.rest ++ y;
    bytes = ap (λ (z : List ℕ). z ++ y) first.bytes ∙ append_assoc first.front first.rest y;
    opens = first.opens;
    sends = batches_more (kept_at_start s) batches b first.rest y first.sends next;
  }

  -- the schema's message, and then those of a table's batches
  pub table_sends : (batches : List BatchRows) (x y : List ℕ) → OpensStream limits s x → SendsBatches limits s (kept_at_start s) batches y
      → SendsTable limits (record { schema = s; batches = batches }) (x ++ y)
  table_sends batches x y opens rest = record { front = x; rest = y; bytes = refl; opens = opens; sends = rest }

-- the messages of a table tell it
pub table_tells : (limits : Limits) (t : Table) (x : List ℕ) → SendsTable limits t x → DenotesTable limits t x
table_tells limits t x sent =
    let s = t.schema in
    let b = batches_tell limits s (kept_at_start s) t.batches sent.rest sent.sends (initial_state s) (begun_in_force s) in (
      b.0,
      (
        b.1.0,
        subst (λ (z : List ℕ). Run limits None z (schema s ∷ map batch t.batches) (Some b.0)) (sym sent.bytes)
            (run_then None (Some (initial_state s)) (Some b.0) sent.front sent.rest (schema s ∷ []) (map batch t.batches) sent.opens b.1.1),
      ),
    )

-- ---- events of a table

-- the events of the first batches
pub take_events : (batches : List BatchRows) (n : ℕ) → take n (map batch batches) ≡ map batch (take n batches)
take_events [] zero = refl
take_events [] (suc n) = refl
take_events (b ∷ batches) zero = refl
take_events (b ∷ batches) (suc n) = ap (λ es. batch b ∷ es) (take_events batches n)
