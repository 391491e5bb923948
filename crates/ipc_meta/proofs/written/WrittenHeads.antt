-- Heads that were written are those that are read.
use Rattle.std.proofs.Common.{◌≡◌, ◌∙◌, refl, ap, subst, ℕ, ◌+◌, ◌≤◌, false, List, [], ◌∷◌, length, arith}
use Rattle.std.specs.Prelude.{ℤ, pos, Option, Some, Result, Ok}
use Rattle.ipc_scalar.specs.Bytes.{byte, int16, int64}
use Rattle.ipc_flat.specs.declared.fault.FlatFault.{FlatFault}
use Rattle.ipc_flat.specs.Flat.{field_place, elements_of}
use Rattle.ipc_flat.specs.Views.{Structs, table_from, scalar, field, structs_from}
use Rattle.ipc_flat.specs.Faulty.{◌>>=◌}
use Rattle.ipc_model.specs.WellFormed.{WellFormed}
use Rattle.ipc_model.specs.declared.schema.Schema.{Schema}
use Rattle.ipc_build.specs.Trees.{Tree}
use Rattle.ipc_build.specs.Encodes.{HasField, EncodesTable, EncodesPairs, Encodes}
use Rattle.ipc_meta.specs.FlatFaults.{map_fault}
use Rattle.ipc_model.specs.Entries.{AllowPairs}
use Rattle.ipc_meta.specs.Fields.{SchemaAt, FieldAt, VectorAt, PairAt}
use Rattle.ipc_meta.specs.declared.head.BatchHead.{BatchHead}
use Rattle.ipc_meta.specs.declared.head.Head.TheVariants as head
use Rattle.ipc_meta.specs.Heads.{number_pairs, struct_pairs, numbers_at, BatchAt, DictionaryAt, HeadOf}
use Rattle.ipc_meta.specs.Written.{field_tree, schema_tree, batch_tree, message_tree, schema_message, batch_message}
use Rattle.ipc_meta.specs.Written.{dictionary_batch_tree, dictionary_message}
use Rattle.ipc_meta.proofs.written.Standing.{Any, tab, Holds, scalar_there, scalar_absent, field_there, field_absent, table_there}
use Rattle.ipc_meta.proofs.written.Standing.{structs_there}
use Rattle.ipc_meta.proofs.written.WrittenParts.{flag_there, vector_lies, pairs_there, neither, no_pairs, pairs_absent}
use Rattle.ipc_meta.proofs.written.WrittenFields.{fields_written}
use Rattle.ipc_model.specs.declared.limits.Limits.{Limits}

-- a table written for a well formed schema states it
pub schema_there : {limits : Limits} → (b : List ℕ) (t : ℕ) (s : Schema) → WellFormed limits s → Holds b t (schema_tree s)
    → SchemaAt limits (tab b t) s
unfolding EncodesTable HasField
schema_there {limits} b t s w h =
    let columns = h.lies.0 in
    record {
      little_endian = scalar_absent b t 0 2 int16 (pos 0)
          (h.stands.absent 0 2 (neither (λ e. omega (arith, e)) (no_pairs 0 2 s.metadata (λ e. omega (arith, e)))));
      fields = vector_lies field_tree FieldAt b t 1 columns.0 columns.3.0 s.fields columns.1.0 columns.3.1 columns.3.3
          (fields_written limits s.fields w.each b);
      pairs = pairs_there b t 2 s.metadata h.lies.1
          (λ e. h.stands.absent 2 4 (neither (λ z. omega (arith, z)) (pairs_absent 2 2 s.metadata e)));
      well_formed = w;
    }

-- ---- batches

pairs_read : (b : List ℕ) (q : ℕ) (xs : List (ℤ × ℤ)) → EncodesPairs Any b q xs → number_pairs b q (length xs) ≡ xs
unfolding EncodesPairs number_pairs
pairs_read b q [] h = refl
pairs_read b q (x ∷ xs) h = rw (h.0, h.1, pairs_read b (q + 16) xs h.3) refl

structs : List ℕ → ℕ → ℕ → Structs
structs b q n = record { bytes = b; at = q; len = n; width = 16 }

numbers_there : (b : List ℕ) (t k p q : ℕ) (xs : List (ℤ × ℤ)) → field_place b t k 4 ≡ Ok (Some p)
    → elements_of b p 16 ≡ Ok (q + 4, length xs)
    → EncodesPairs Any b (q + 4) xs → numbers_at (tab b t) k ≡ Ok xs
unfolding numbers_at structs
numbers_there b t k p q xs s e lies =
    ap (λ (r : Result (Option Structs) FlatFault). map_fault r >>= λ o. Ok (struct_pairs o))
    (field_there b t k p (structs_from 16) (structs b (q + 4) (length xs)) s (structs_there b p (q + 4) (length xs) 16 e))
    ∙ ap Ok (pairs_read b (q + 4) xs lies)

-- a table written for a batch's head states it
pub batch_there : (b : List ℕ) (t : ℕ) (h : BatchHead) → Holds b t (batch_tree h) → BatchAt (tab b t) h
unfolding EncodesTable HasField
batch_there b t h held =
    let length = held.lies.0 in
    let nodes = held.lies.1.0 in
    let buffers = held.lies.1.1.0 in
    record {
      length = scalar_there b t 0 8 length.0 int64 (pos 0) length.1.0 ∙ ap Ok length.3;
      nodes = numbers_there b t 1 nodes.0 nodes.3.0 h.nodes nodes.1.0 nodes.3.1 nodes.3.3;
      buffers = numbers_there b t 2 buffers.0 buffers.3.0 h.buffers buffers.1.0 buffers.3.1 buffers.3.3;
      uncompressed = field_absent b t 3 table_from
          (held.stands.absent 3 4 (neither (λ e. omega (arith, e))
          (neither (λ e. omega (arith, e)) (neither (λ e. omega (arith, e)) (λ z. z)))));
    }

-- a table written for a dictionary batch states its id and its head, and is no delta
pub dictionary_there : (b : List ℕ) (t : ℕ) (id : ℤ) (h : BatchHead) → Holds b t (dictionary_batch_tree id h) → DictionaryAt (tab b t) id h
unfolding EncodesTable
dictionary_there b t id h held =
    let named = held.lies.0 in
    let values = held.lies.1.0 in
    let whole = held.lies.1.1.0 in
    record {
      named = scalar_there b t 0 8 named.0 int64 (pos 0) named.1.0 ∙ ap Ok named.3;
      values = (
        tab b values.3.0,
        field_there b t 1 values.0 table_from (tab b values.3.0) values.1.0 (table_there b values.0 values.3.0 values.3.1),
        batch_there b values.3.0 h (record { stands = values.3.2; lies = values.3.3 }),
      );
      whole = flag_there b t 2 whole.0 false whole.1.0 whole.3;
    }

-- ---- messages

-- the root table of a message, with its header
record Message (b : List ℕ) (code m : ℕ) (header : Tree) (pairs : List (List ℕ × List ℕ)) : Type 0 where
  t : ℕ
  u : ℕ
  stands : table_from b 0 ≡ Ok (tab b t)
  version : scalar (tab b t) 0 2 int16 (pos 0) ≡ Ok (pos 4)
  coded : scalar (tab b t) 1 1 byte 0 ≡ Ok code
  headed : field (tab b t) 2 table_from ≡ Ok (Some (tab b u))
  held : Holds b u header
  body : scalar (tab b t) 3 8 int64 (pos 0) ≡ Ok (pos m)
  paired : VectorAt PairAt pairs (tab b t) 4

message_there : (b : List ℕ) (code m : ℕ) (header : Tree) (pairs : List (List ℕ × List ℕ)) → Encodes b (message_tree code header m pairs)
    → Message b code m header pairs
unfolding EncodesTable HasField
message_there b code m header pairs h =
    let root = h.0 in
    let t = root.3.0 in
    let version = root.3.3.0 in
    let coded = root.3.3.1.0 in
    let headed = root.3.3.1.1.0 in
    let body = root.3.3.1.1.1.0 in
    record {
      t = t;
      u = headed.3.0;
      stands = subst (λ (p : ℕ). table_from b p ≡ Ok (tab b t)) root.1 (table_there b root.0 t root.3.1);
      version = scalar_there b t 0 2 version.0 int16 (pos 0) version.1.0 ∙ ap Ok version.3;
      coded = scalar_there b t 1 1 coded.0 byte 0 coded.1.0 ∙ ap Ok coded.3;
      headed = field_there b t 2 headed.0 table_from (tab b headed.3.0) headed.1.0 (table_there b headed.0 headed.3.0 headed.3.1);
      held = record { stands = headed.3.2; lies = headed.3.3 };
      body = scalar_there b t 3 8 body.0 int64 (pos 0) body.1.0 ∙ ap Ok body.3;
      paired = pairs_there b t 4 pairs root.3.3.1.1.1.1
          (λ e. root.3.2.absent 4 4 (neither (λ z. omega (arith, z)) (neither (λ z. omega (arith, z)) (neither (λ z. omega (arith, z))
          (neither (λ z. omega (arith, z)) (pairs_absent 4 4 pairs e))))));
    }

-- metadata in which the message of a well formed schema lies states that schema, and a body of no bytes
pub schema_stated : {limits : Limits} → (b : List ℕ) (s : Schema) → WellFormed limits s → Encodes b (schema_message s)
    → HeadOf limits b (head.Schema s) 0
schema_stated b s w h =
    let m = message_there b 1 0 (schema_tree s) [] h in
    record {
      root = tab b m.t;
      stands = m.stands;
      version = m.version;
      body = m.body;
      fits = omega arith;
      header = (m.coded, (tab b m.u, m.headed, schema_there b m.u s w m.held));
    }

-- metadata in which the message of a batch lies states the batch's head and the length of its body
pub batch_stated : {limits : Limits} → (b : List ℕ) (h : BatchHead) (pairs : List (List ℕ × List ℕ)) (body : ℕ) → body ≤ limits.body
    → AllowPairs limits pairs → Encodes b (batch_message h pairs body)
    → HeadOf limits b (head.Batch h pairs) body
batch_stated b h pairs body small allowed lies =
    let m = message_there b 3 body (batch_tree h) pairs lies in
    record {
      root = tab b m.t;
      stands = m.stands;
      version = m.version;
      body = m.body;
      fits = small;
      header = (
        (m.coded, (tab b m.u, m.headed, batch_there b m.u h m.held)),
        record { stated = m.paired; allowed = allowed },
      );
    }

-- metadata in which the message of a dictionary batch lies states its id, its head and the length of its body
pub dictionary_stated : {limits : Limits} → (b : List ℕ) (id : ℤ) (h : BatchHead) (body : ℕ) → body ≤ limits.body
    → Encodes b (dictionary_message id h body)
    → HeadOf limits b (head.Dictionary id h) body
dictionary_stated b id h body small lies =
    let m = message_there b 2 body (dictionary_batch_tree id h) [] lies in
    record {
      root = tab b m.t;
      stands = m.stands;
      version = m.version;
      body = m.body;
      fits = small;
      header = (m.coded, (tab b m.u, m.headed, dictionary_there b m.u id h m.held));
    }
