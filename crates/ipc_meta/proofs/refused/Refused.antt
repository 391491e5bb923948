-- Where reading fails, the fault's cause is true of the metadata.
use Rattle.std.proofs.Common.{◌≡◌, refl, ap, subst, ℕ, List, inl}
use Rattle.std.specs.Prelude.{pos, Option, None, Some, Result, Ok, Err}
use Rattle.ipc_scalar.specs.Bytes.{byte, int64}
use Rattle.ipc_flat.specs.Views.{TableView, table_from, scalar, field, elements_from, structs_from, or_default}
use Rattle.ipc_flat.specs.Flat.{field_place, text_of}
use Rattle.ipc_flat.specs.declared.fault.FlatFault.{FlatFault}
use Rattle.ipc_flat.specs.declared.fault.FlatFault.TheVariants as flat
use Rattle.ipc_flat.specs.Faulty.{◌>>=◌}
use Rattle.ipc_model.specs.declared.fault.Fault.{Fault}
use Rattle.ipc_model.specs.declared.fault.Fault.TheVariants as f
use Rattle.ipc_meta.specs.FlatFaults.{fault_of, map_fault}
use Rattle.ipc_meta.specs.declared.head.BatchHead.{BatchHead}
use Rattle.ipc_meta.specs.Tables.{flag_at, vector_at}
use Rattle.ipc_meta.specs.Heads.{numbers_at}
use Rattle.ipc_meta.specs.Reading.{batch_read, when_plain}
use Rattle.ipc_meta.specs.Reached.{TableKind, record_batch, number, table, text, tables, structs, ReadsField, compression, length, nodes}
use Rattle.ipc_meta.specs.Reached.{buffers}
use Rattle.ipc_meta.specs.Reached.{HasTable, IsIllFormed, HasIllFormed, at_field, HasInvalidUtf8, at_text}
use Rattle.ipc_meta.specs.Causes.{Cause}
use Rattle.ipc_meta.proofs.Texts.{no_slot, no_table_in, no_tables_in, no_structs_in}
use Rattle.ipc_model.specs.declared.limits.Limits.{Limits}
use Rattle.ipc_meta.proofs.Binds.{lift_ok}

-- a step fails, or the next one does
pub step : {A B P : Type 0} (r : Result A Fault) (next : A → Result B Fault) (e : Fault) → (r >>= next) ≡ Err e → (r ≡ Err e → P)
    → ((x : A) → r ≡ Ok x → next x ≡ Err e → P) → P
step (Ok x) next e h here there = there x refl h
step (Err d) next e h here there = let same : d ≡ e = cc in here (ap Err same)

-- a FlatBuffer's fault is that of a text, or that something is ill-formed
pub illegible : (limits : Limits) → {A : Type 0} (b : List ℕ) (r : Result A FlatFault) (e : Fault) → map_fault r ≡ Err e
    → (r ≡ Err flat.NotUtf8 → HasInvalidUtf8 b)
    → (IsIllFormed r → HasIllFormed b) → Cause limits b e
illegible limits b (Ok x) e h other ill = absurd (cc)
illegible limits b (Err flat.NotUtf8) e h other ill = let same : f.NameNotUtf8 ≡ e = cc in subst (Cause limits b) same (other refl)
illegible limits b (Err flat.OffsetZero) e h other ill = let same : f.BadFlat ≡ e = cc in subst (Cause limits b) same (ill refl)
illegible limits b (Err flat.OutOfBounds) e h other ill = let same : f.BadFlat ≡ e = cc in subst (Cause limits b) same (ill refl)
illegible limits b (Err flat.BadVtable) e h other ill = let same : f.BadFlat ≡ e = cc in subst (Cause limits b) same (ill refl)

-- the first step of a reading fails where its last one can't
before_last : {A B : Type 0} (r : Result A FlatFault) (last : A → B) (e : Fault) → map_fault (r >>= (λ x. Ok (last x))) ≡ Err e
    → map_fault r ≡ Err e
before_last (Ok x) last e h = absurd (cc)
before_last (Err d) last e h = let same : fault_of d ≡ e = cc in ap Err same

-- a number that can't be read has no place
pub bad_number : (limits : Limits) → {X : Type 0} (b : List ℕ) (kind : TableKind) (t : TableView) (k w : ℕ) (read : List ℕ → ℕ
    → X) (x : X) (e : Fault)
    → HasTable b kind t → ReadsField kind k (number w) → map_fault (scalar t k w read x) ≡ Err e → Cause limits b e
unfolding scalar
bad_number limits b kind t k w read x e has look h =
    let none = before_last (field_place t.bytes t.at k w) (or_default (read t.bytes) x) e h in
    illegible limits b (field_place t.bytes t.at k w) e none (λ i. absurd (no_slot t.bytes t.at k w i)) (at_field has look)

-- where a truth value in a field can't be read, the fault's cause is true of the metadata
pub bad_flag : (limits : Limits) (b : List ℕ) (kind : TableKind) (t : TableView) (k : ℕ) (e : Fault) → HasTable b kind t
    → ReadsField kind k (number 1)
    → flag_at t k ≡ Err e → Cause limits b e
unfolding flag_at
bad_flag limits b kind t k e has look h = step (map_fault (scalar t k 1 byte 0)) _ e h (bad_number limits b kind t k 1 byte 0 e has look)
    (λ n is bad. absurd (cc))

-- where the table in a field can't be read, the fault's cause is true of the metadata
pub bad_table : (limits : Limits) (b : List ℕ) (kind : TableKind) (t : TableView) (k : ℕ) (e : Fault) → HasTable b kind t
    → ReadsField kind k table
    → map_fault (field t k table_from) ≡ Err e → Cause limits b e
bad_table limits b kind t k e has look h = illegible limits b (field t k table_from) e h (λ i. absurd (no_table_in t k i)) (at_field has
    look)

-- the value of a union
pub bad_value : (limits : Limits) (b : List ℕ) (t : TableView) (k : ℕ) (e : Fault) → (IsIllFormed (field t k table_from) → HasIllFormed b)
    → map_fault (field t k table_from) ≡ Err e → Cause limits b e
bad_value limits b t k e ill h = illegible limits b (field t k table_from) e h (λ i. absurd (no_table_in t k i)) ill

-- where the text in a field can't be read, the fault's cause is true of the metadata
pub bad_text : (limits : Limits) (b : List ℕ) (kind : TableKind) (t : TableView) (k : ℕ) (e : Fault) → HasTable b kind t
    → ReadsField kind k text
    → map_fault (field t k text_of) ≡ Err e → Cause limits b e
bad_text limits b kind t k e has look h = illegible limits b (field t k text_of) e h (at_text has look) (at_field has look)

bad_structs : (limits : Limits) (b : List ℕ) (kind : TableKind) (t : TableView) (k : ℕ) (e : Fault) → HasTable b kind t
    → ReadsField kind k structs
    → numbers_at t k ≡ Err e → Cause limits b e
unfolding numbers_at
bad_structs limits b kind t k e has look h = step (map_fault (field t k (structs_from 16))) _ e h
    (λ none. illegible limits b (field t k (structs_from 16)) e none (λ i. absurd (no_structs_in t k i)) (at_field has look))
    (λ o is bad. absurd (cc))

-- where the vector of tables in a field can't be read, the fault's cause is true of the metadata
pub bad_vector : (limits : Limits) (b : List ℕ) (kind : TableKind) (t : TableView) (k : ℕ) (e : Fault) → HasTable b kind t
    → ReadsField kind k tables
    → vector_at t k ≡ Err e → Cause limits b e
unfolding vector_at
bad_vector limits b kind t k e has look h = step (map_fault (field t k (elements_from 4))) _ e h
    (λ none. illegible limits b (field t k (elements_from 4)) e none (λ i. absurd (no_tables_in t k i)) (λ ill. at_field has look (inl
    ill)))
    (λ o is bad. absurd (cc))

-- ---- batches

-- what a batch without compression states
abbrev plain_batch : TableView → Result BatchHead Fault
plain_batch t = map_fault (scalar t 0 8 int64 (pos 0)) >>= λ n. numbers_at t 1 >>= λ ns. numbers_at t 2
    >>= λ bs. Ok (record { length = n; nodes = ns; buffers = bs })

-- where a RecordBatch table can't be read, the fault's cause is true of the metadata
pub batch_refused : (limits : Limits) (b : List ℕ) (t : TableView) (e : Fault) → HasTable b record_batch t → batch_read t ≡ Err e
    → Cause limits b e
unfolding batch_read
batch_refused limits b t e has h = step (map_fault (field t 3 table_from)) _ e h (bad_table limits b record_batch t 3 e has compression) go
  where
    go : (o : Option TableView) → map_fault (field t 3 table_from) ≡ Ok o → when_plain o (plain_batch t) ≡ Err e → Cause limits b e
    go (Some c) i h = let same : f.Compressed ≡ e = cc in subst (Cause limits b) same (
      t,
      has,
      (
        c,
        lift_ok (field t 3 table_from) (Some c)
            i,
      ),
    )
    go None i h =
        step (map_fault (scalar t 0 8 int64 (pos 0))) _ e h (bad_number limits b record_batch t 0 8 int64 (pos 0) e has length) (λ n i h.
        step (numbers_at t 1) _ e h (bad_structs limits b record_batch t 1 e has nodes) (λ ns i h.
        step (numbers_at t 2) _ e h (bad_structs limits b record_batch t 2 e has buffers) (λ bs i h. absurd (cc))))
