-- What a scope brings and sets.
use Rattle.std.proofs.Common.{◌≡◌, ◌∙◌, sym, ap, subst, ℕ, ◌≤◌, ℤ, List, [], ◌∷◌, length, map, Some, None, Result, Ok, Err}
use Rattle.std.specs.Prelude.{IfErr, IfOk, OnErr, OnOk}
use Rattle.ipc_model.specs.declared.fault.Fault.{Fault}
use Rattle.ipc_model.specs.declared.fault.Fault.TheVariants.{OutOfMemory}
use Rattle.ipc_model.specs.declared.limits.Limits.{Limits}
use Rattle.ipc_model.specs.declared.schema.Schema.{Schema}
use Rattle.ipc_meta.specs.declared.head.BatchHead.{BatchHead}
use Rattle.ipc_meta.specs.declared.head.Head.TheVariants as h
use Rattle.ipc_frame.specs.declared.frame.Frame.{Frame}
use Rattle.ipc_frame.specs.declared.frame.Frame.TheVariants as f
use Rattle.ipc_model.specs.declared.schema.Field.{Field}
use Rattle.ipc_column.specs.Contents.{Contents, layouts}
use Rattle.ipc_column.specs.Dictionaries.{Dictionaries}
use Rattle.ipc_column.specs.DictionaryBatches.{dictionary_values}
use Rattle.ipc_column.specs.Nested.{found_columns, with_children}
use Rattle.ipc_column.specs.Shapes.{field_columns, field_layout}
use Rattle.ipc_column.specs.checks.Rules.{total_slots, visits_in}
use Rattle.ipc_dict_read.specs.DictionariesState.{DictionariesState}
use Rattle.ipc_dict_read.specs.InForce.{put}
use Rattle.ipc_stream_read.specs.declared.event.Event.TheVariants as report
use Rattle.ipc_stream_read.specs.declared.scope.Scope.{Scope}
use Rattle.ipc_stream_read.specs.ReadBatches.{IsCheckedBatch}
use Rattle.ipc_stream_read.specs.StreamStates.{Brings, BringsScope, GivesValues, SetsValues}
use Rattle.ipc_stream_read.specs.Scopes.{dictionaries_of, in_scope}
use Rattle.ipc_stream_read.specs.Stream.{DictionaryInForce, InForce, Step, schema_message, dictionary_batch, schema}
use Rattle.ipc_stream_read.proofs.Dictionaries.{kept_put}

-- a frame that brings a scope tells its schema
pub first_brings : (limits : Limits) (frame : Frame) (scope : Scope) → BringsScope frame (Ok scope)
    → Brings limits None frame (Some (in_scope scope)) (Ok (Some report.Schema))
first_brings limits f.End scope b = absurd b
first_brings limits (f.Message meta head body) scope b =
    let s = scope.schema in (
      s,
      subst (λ g. Step limits None g body.items (schema s ∷ []) (Some (in_scope scope))) (sym b.0)
          (subst (λ o. Step limits None (h.Schema s) body.items (schema s ∷ []) (Some o)) (sym b.1) schema_message),
    )

-- what is in force with these batches
abbrev with_batches : Schema → DictionariesState → InForce
with_batches s a = record { schema = s; dictionaries = dictionaries_of a.current }

-- values that are put in force are set
pub sets_values : (limits : Limits) (s : Schema) (a b : DictionariesState) (id : ℤ) (head : BatchHead) (body : List ℕ) (values : Contents)
    (r : Result (Unit {0}) Fault) → GivesValues limits (with_batches s a) id head body values
    → OnOk r (b ≡ record a { current = put a.current id values }) → OnErr r (b ≡ a) → IfErr r (λ fault. fault ≡ OutOfMemory)
    → SetsValues limits (with_batches s a) (with_batches s b) id head body r
sets_values limits s a b id head body values (Ok x) gives after err memory =
    let m = dictionaries_of a.current in
    let now : dictionaries_of b.current ≡ put m id (record { values = dictionary_values values; bytes = length body }) =
    ap (λ (x : DictionariesState). dictionaries_of x.current) after ∙ (kept_put a.current id values
    ∙ ap (λ n. put m id (record { values = dictionary_values values; bytes = n })) gives.3) in
    subst (λ (d : List (ℤ × DictionaryInForce)). Step limits (Some (with_batches s a)) (h.Dictionary id head) body []
    (Some (record { schema = s; dictionaries = d }))) (sym now) (dictionary_batch gives.1 gives.2)
sets_values limits s a b id head body values (Err e) gives after err memory =
    (ap (with_batches s) err, λ other. absurd (other memory))

-- what is answered for a head and a body has the buffers and the body
pub answers_checked : (r : Result Contents Fault) (m n : Dictionaries) (gs fields : List Field) (head : BatchHead) (body : List ℕ)
    → m ≡ n → gs ≡ fields
    → IfOk r (λ batch. layouts batch ≡ map field_layout gs)
    → IfOk r (λ batch. map with_children batch.slots ≡ found_columns (field_columns m gs head body))
    → IfOk r (λ batch. batch.body ≡ body) → IfOk r (λ batch. batch.body_len ≡ length body)
    → IfOk r (λ batch. batch.tests ≤ visits_in (field_columns m gs head body)) → IfOk r (λ batch. batch.tests ≤ total_slots head.nodes)
    → IfOk r (IsCheckedBatch n fields head body)
answers_checked (Ok batch) m n gs fields head body same is lie buffers bytes len visits tests =
    subst (λ k. IsCheckedBatch k fields head body batch) same (subst (λ fs. IsCheckedBatch m fs head body batch) is (record {
      column_layouts = lie;
      buffers = buffers;
      bytes = bytes;
      bytes_len = len;
      visits = visits;
      visits_at_most = tests;
    }))
answers_checked (Err e) m n gs fields head body same is lie buffers bytes len visits tests = tt
