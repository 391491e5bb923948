-- Where bytes hold a table, messages at their front are the first messages of that table.
use Rattle.std.proofs.Common.{◌≡◌, ◌∙◌, refl, sym, ap, ℕ, inl, inr, List, [], ◌∷◌, ◌++◌, map, append_assoc, Option, Some, None, Ok}
use Rattle.std.specs.Io.KnownBytes.{Consumes, IsAtEnd}
use Rattle.std.proofs.lemmas.List.{append-nil}
use Rattle.ipc_model.specs.declared.limits.Limits.{Limits}
use Rattle.ipc_model.specs.declared.schema.Schema.{Schema}
use Rattle.ipc_model.specs.declared.table.BatchRows.{BatchRows}
use Rattle.ipc_model.specs.declared.table.Table.{Table}
use Rattle.ipc_frame.specs.Frames.{end_of_stream}
use Rattle.ipc_stream_read.specs.declared.end.End.{End}
use Rattle.ipc_stream_read.specs.declared.end.End.TheVariants.{Mark, Closed}
use Rattle.ipc_stream_read.specs.Reasons.{Reads}
use Rattle.ipc_stream_read.proofs.Reasons.{run_told}
use Rattle.ipc_stream_read.specs.Stream.{State, MessageEvent, schema, batch, Run, events_of, Denotes}
use Rattle.ipc_stream_read.proofs.OneReading.{IsStop, at_eos, overlap, stops_there}

-- batches whose events begin those of others begin them
batches_begin : (xs ys : List BatchRows) (rest : List MessageEvent) → map batch xs ≡ map batch ys ++ rest
    → (more : List BatchRows) × (xs ≡ ys ++ more)
batches_begin xs [] rest e = (xs, refl)
batches_begin [] (y ∷ ys) rest e = absurd (cc)
batches_begin (x ∷ xs) (y ∷ ys) rest e =
    let head : batch x ≡ batch y = cc in
    let one : x ≡ y = cc in
    let tail : map batch xs ≡ map batch ys ++ rest = cc in
    let others = batches_begin xs ys rest tail in
    (others.0, cc)

-- a table whose events begin those of another has its schema, and its first batches
pub table_begins : (t u : Table) (rest : List MessageEvent) → events_of t ≡ events_of u ++ rest
    → (more : List BatchRows) × (t ≡ record { schema = u.schema; batches = u.batches ++ more })
table_begins t u rest e =
    let head : schema t.schema ≡ schema u.schema = cc in
    let one : t.schema ≡ u.schema = cc in
    let tail : map batch t.batches ≡ map batch u.batches ++ rest = cc in
    let others = batches_begin t.batches u.batches rest tail in
    (others.0, λ i. record { schema = one i; batches = others.1 i })

-- a schema whose event begins those of a table is the table's
pub schema_begins : (t : Table) (s : Schema) (rest : List MessageEvent) → events_of t ≡ (schema s ∷ []) ++ rest → s ≡ t.schema
schema_begins t s rest e =
    let head : schema t.schema ≡ schema s = cc in
    let one : t.schema ≡ s = cc in
    sym one

-- bytes begin with the messages of a table, behind which a run may stop
pub record Holds (limits : Limits) (z : List ℕ) (t : Table) : Type 0 where
  pub state : State
  pub whole : List ℕ
  pub rest : List ℕ
  pub run : Run limits None whole (events_of t) state
  pub joined : whole ++ rest ≡ z
  pub stop : IsStop rest

-- bytes that denote a table with its mark hold it, whatever follows
pub holds_marked : {limits : Limits} → (x rest : List ℕ) (t : Table) → Denotes limits x t Mark → Holds limits (x ++ rest) t
holds_marked x rest t d = record {
  state = d.2.0;
  whole = d.0;
  rest = end_of_stream ++ rest;
  run = d.2.1;
  joined = sym (append_assoc d.0 end_of_stream rest) ∙ ap (λ y. y ++ rest) (sym d.1);
  stop = at_eos rest;
}

-- bytes that denote a table without a mark hold it
pub holds_closed : {limits : Limits} → (x : List ℕ) (t : Table) → Denotes limits x t Closed → Holds limits x t
holds_closed x t d = record { state = d.0; whole = x; rest = []; run = d.1; joined = append-nil x; stop = inl refl }

-- the messages at the front of such bytes are the first of the table
pub front_begins : {limits : Limits} → (z x b : List ℕ) (t : Table) (fs : List MessageEvent) (υ : State) → Holds limits z t → z ≡ x ++ b
    → Run limits None x fs υ → (rest : List MessageEvent) × (events_of t ≡ fs ++ rest)
front_begins z x b t fs υ h is run = elim (overlap h.rest b h.run run (h.joined ∙ is)) [
  | inl g ↦ ([], (stops_there g h.stop).events ∙ sym (append-nil fs))
  | inr g ↦ (g.events, g.told)
]

-- what denotes a table and its end is read to that end
pub reads_of : {limits : Limits} → (x : List ℕ) (left : Option (List ℕ)) (t : Table) (end : End) → Denotes limits x t end
    → (end ≡ Closed → IsAtEnd left) → Reads limits None x left (events_of t) (Ok end)
reads_of x left t Mark d closed = record {
  state = d.2.0;
  whole = d.0;
  rest = end_of_stream;
  joined = d.1;
  run = d.2.1;
  ends = (refl, run_told d.2.1 (λ none. absurd (cc)));
}
reads_of x left t Closed d closed = record {
  state = d.0;
  whole = x;
  rest = [];
  joined = sym (append-nil x);
  run = d.1;
  ends = (refl, run_told d.1 (λ none. absurd (cc)), closed refl);
}

-- a source that holds known bytes leaves the rest of them
pub left_of : (z : List ℕ) (new : Option (List ℕ)) (x : List ℕ) → Consumes (Some z) new x → (b : List ℕ) × (z ≡ x ++ b)
left_of z None x c = absurd c
left_of z (Some b) x c = (b, c)
