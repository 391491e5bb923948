-- What is read is what the tables state.
use Rattle.std.proofs.Common.{◌≡◌, ◌∙◌, refl, sym, ap, subst, ℕ, zero, suc, ◌+◌, ◌-◌, ◌<◌, List, [], ◌∷◌, map, length, arith}
use Rattle.std.specs.Prelude.{pos, Option, None, Some, Result, Ok}
use Rattle.ipc_scalar.specs.Bytes.{int64}
use Rattle.ipc_flat.specs.Views.{TableView, Elements, table_from, scalar, field}
use Rattle.ipc_flat.specs.Faulty.{◌>>=◌}
use Rattle.ipc_model.specs.declared.fault.Fault.{Fault}
use Rattle.ipc_model.specs.declared.schema.DataType.{DataType}
use Rattle.ipc_model.specs.declared.schema.Field.{Field, roll-Field, rec-roll-Field, map-Field}
use Rattle.ipc_model.specs.declared.schema.Field.TheOpen.{Field-F}
use Rattle.ipc_model.specs.Entries.{kind_text}
use Rattle.ipc_meta.specs.declared.budget.Budget.{Budget}
use Rattle.ipc_meta.specs.Budgets.{Reading, less_fields, less_text, less_pairs}
use Rattle.ipc_meta.specs.FlatFaults.{map_fault}
use Rattle.ipc_meta.specs.Tables.{text_at, flag_at, vector_at, type_at, dictionary_at}
use Rattle.ipc_meta.specs.Types.{TypeAt}
use Rattle.ipc_meta.specs.Fields.{TablesAt, VectorAt, PairAt, IsEncodedAs, field_step, FieldAt}
use Rattle.ipc_meta.specs.declared.head.BatchHead.{BatchHead}
use Rattle.ipc_meta.specs.Heads.{BatchAt, numbers_at}
use Rattle.ipc_meta.specs.Reading.{batch_read, when_plain, each, text_read, pair_read, pairs_read, type_read, fields_read, field_read}
use Rattle.ipc_meta.proofs.StatedTypes.{type_stated, dictionary_stated}
use Rattle.ipc_meta.proofs.Binds.{bind_ok, lift_ok}

-- an answer with what is left of the budget
abbrev pub with_left : {X : Type 0} → X → Budget → Result (X × Budget) Fault
with_left x l = Ok (x, l)

-- answers with what is left of the budget are equal in both parts
pub left_parts : {X : Type 0} (x y : X) (l m : Budget) → with_left x l ≡ with_left y m → (x ≡ y) × (l ≡ m)
left_parts {X} x y l m h =
    let pair : (x, l) ≡ (y, m) = cc in
    (ap (λ (q : X × Budget). q.0) pair, ap (λ (q : X × Budget). q.1) pair)

-- ---- tables one after another

-- what is read of a table is what the table states
abbrev pub Sound : {X : Type 0} → (TableView → Reading X) → (X → TableView → Type 0) → Type 0
Sound {X} f At = (t : TableView) (left after : Budget) (x : X) → f t left ≡ Ok (x, after) → At x t

-- where each table states what is read of it, tables one after another state what is read of them
pub each_sound : {X : Type 0} (f : TableView → Reading X) (At : X → TableView → Type 0) → Sound f At
    → (b : List ℕ) (n p : ℕ) (left after : Budget) (xs : List X) → each f b p n left ≡ Ok (xs, after) → TablesAt At b p n xs
unfolding each
each_sound f At s b zero p left after xs h =
    let e = left_parts [] xs left after h in
    subst (λ zs. TablesAt At b p 0 zs) e.0 refl
each_sound f At s b (suc n) p left after xs h =
    let a = bind_ok (map_fault (table_from b p)) _ _ h in
    let c = bind_ok (f a.0 left) _ _ a.2 in
    let r = bind_ok (each f b (p + 4) n c.0.1) _ _ c.2 in
    let e = left_parts (c.0.0 ∷ r.0.0) xs r.0.1 after r.2 in
    let there = each_sound f At s b n (p + 4) c.0.1 r.0.1 r.0.0 r.1 in
    let size : n ≡ suc n - 1 = omega arith in
    subst (λ zs. TablesAt At b p (suc n) zs) e.0
    (a.0, omega arith, lift_ok (table_from b p) a.0 a.1, s a.0 left c.0.1 c.0.0 c.1, subst (λ m. TablesAt At b (p + 4) m r.0.0) size there)

-- ---- texts and pairs

-- a text that was read is the one in the table's field
pub text_sound : (t : TableView) (k : ℕ) (left after : Budget) (s : List ℕ) → text_read t k left ≡ Ok (s, after) → text_at t k ≡ Ok s
unfolding text_read
text_sound t k left after s h =
    let a = bind_ok (text_at t k) _ _ h in
    let l = bind_ok (less_text (length a.0) left) _ _ a.2 in
    let e = left_parts a.0 s l.0 after l.2 in
    a.1 ∙ ap Ok e.0

-- a pair that was read is the one that its KeyValue table states
pub pair_sound : Sound pair_read PairAt
unfolding pair_read
pair_sound t left after p h =
    let k = bind_ok (text_read t 0 left) _ _ h in
    let v = bind_ok (text_read t 1 k.0.1) _ _ k.2 in
    let e = left_parts (k.0.0, v.0.0) p v.0.1 after v.2 in
    subst (λ q. PairAt q t) e.0 (text_sound t 0 left k.0.1 k.0.0 k.1, text_sound t 1 k.0.1 v.0.1 v.0.0 v.1)

-- pairs that were read are those that the vector in the table's field states
pub pairs_sound : (t : TableView) (k : ℕ) (left after : Budget) (ps : List (List ℕ × List ℕ)) → pairs_read t k left ≡ Ok (ps, after)
    → VectorAt PairAt ps t k
unfolding pairs_read
pairs_sound t k left after ps h =
    let v = bind_ok (vector_at t k) _ _ h in
    let l = bind_ok (less_pairs v.0.len left) _ _ v.2 in
    (v.0, v.1, each_sound pair_read PairAt pair_sound v.0.bytes v.0.len v.0.at l.0 after ps l.2)

-- ---- the type

-- a type that was read is the one that the Field table states
pub type_sound : (t : TableView) (left after : Budget) (κ : DataType) → type_read t left ≡ Ok (κ, after) → type_at t ≡ Ok κ
unfolding type_read
type_sound t left after κ h =
    let a = bind_ok (type_at t) _ _ h in
    let l = bind_ok (less_text (kind_text a.0) left) _ _ a.2 in
    let e = left_parts a.0 κ l.0 after l.2 in
    a.1 ∙ ap Ok e.0

-- ---- fields

module _ {X Y : Type 0} (v : X → Y) (k : Y → TableView → Type 0) where
  tables_map : (b : List ℕ) (p n : ℕ) (xs : List X) → TablesAt (λ x. k (v x)) b p n xs ≡ TablesAt k b p n (map v xs)
  tables_map b p n [] = refl
  tables_map b p n (x ∷ xs) = ap (λ (T : Type 0). (t : TableView) × (0 < n) × (table_from b p ≡ Ok t) × k (v x) t × T)
      (tables_map b (p + 4) (n - 1) xs)

natural : (X : Type 0) (v : X → Field) (k : Field → TableView → Type 0) (x : Field-F X)
    → field_step X v (λ p. k (v p)) x ≡ field_step Field (λ y. y) k (map-Field X Field v x)
natural X v k x = λ i t.
    (text_at t 0 ≡ Ok x.name) × (flag_at t 1 ≡ Ok x.nullable) × TypeAt x.kind t × IsEncodedAs x.dictionary t
    × VectorAt PairAt x.metadata t 6 × ((es : Elements) × (vector_at t 5 ≡ Ok es) × tables_map v k es.bytes es.at es.len x.children i)

-- a table states a field where it states the field's own members, and its vector of children the children
pub field_roll : (x : Field-F Field) → FieldAt (roll-Field x) ≡ field_step Field (λ y. y) FieldAt x
field_roll x = rec-roll-Field (TableView → Type 0) field_step natural x

-- fields that were read are those that the vector in the table's field states
pub fields_sound : (f : TableView → Reading Field) → Sound f FieldAt → (t : TableView) (k : ℕ) (left after : Budget) (fs : List Field)
    → fields_read f t k left ≡ Ok (fs, after) → VectorAt FieldAt fs t k
unfolding fields_read
fields_sound f s t k left after fs h =
    let v = bind_ok (vector_at t k) _ _ h in
    let l = bind_ok (less_fields v.0.len left) _ _ v.2 in
    (v.0, v.1, each_sound f FieldAt s v.0.bytes v.0.len v.0.at l.0 after fs l.2)

-- a field that was read, down to any depth, is the one that its table states
pub field_sound : (d : ℕ) → Sound (field_read d) FieldAt
unfolding field_read
field_sound zero t left after x h = absurd (cc)
field_sound (suc d) t left after x h =
    let name = bind_ok (text_read t 0 left) _ _ h in
    let nullable = bind_ok (flag_at t 1) _ _ name.2 in
    let κ = bind_ok (type_read t name.0.1) _ _ nullable.2 in
    let o = bind_ok (dictionary_at t) _ _ κ.2 in
    let pairs = bind_ok (pairs_read t 6 κ.0.1) _ _ o.2 in
    let children = bind_ok (fields_read (field_read d) t 5 pairs.0.1) _ _ pairs.2 in
    let y : Field-F Field = record {
      name = name.0.0;
      nullable = nullable.0;
      kind = κ.0.0;
      dictionary = o.0;
      children = children.0.0;
      metadata = pairs.0.0;
    } in
    let e = left_parts (roll-Field y) x children.0.1 after children.2 in
    let here : field_step Field (λ z. z) FieldAt y t = (
      text_sound t 0 left name.0.1 name.0.0 name.1,
      nullable.1,
      type_stated t κ.0.0 (type_sound t name.0.1 κ.0.1 κ.0.0 κ.1),
      dictionary_stated t o.0 o.1,
      pairs_sound t 6 κ.0.1 pairs.0.1 pairs.0.0 pairs.1,
      fields_sound (field_read d) (field_sound d) t 5 pairs.0.1 children.0.1 children.0.0 children.1,
    ) in
    subst (λ z. FieldAt z t) e.0 (subst (λ (F : TableView → Type 0). F t) (sym (field_roll y)) here)

-- ---- batches

plain_ok : {X : Type 0} (o : Option TableView) (r : Result X Fault) (x : X) → when_plain o r ≡ Ok x → (o ≡ None) × (r ≡ Ok x)
plain_ok None r x h = (refl, h)
plain_ok (Some t) r x h = absurd (cc)

abbrev given : BatchHead → Result BatchHead Fault
given b = Ok b

batch_same : (a b : BatchHead) → given a ≡ given b → a ≡ b
batch_same a b h = cc

-- a batch's head that was read is the one that the RecordBatch table states
pub batch_sound : (t : TableView) (batch : BatchHead) → batch_read t ≡ Ok batch → BatchAt t batch
unfolding batch_read
batch_sound t batch h =
    let o = bind_ok (map_fault (field t 3 table_from)) _ _ h in
    let plain = plain_ok o.0 (map_fault (scalar t 0 8 int64 (pos 0)) >>= λ n. numbers_at t 1 >>= λ nodes. numbers_at t 2
    >>= λ buffers. Ok (record { length = n; nodes = nodes; buffers = buffers })) batch o.2 in
    let n = bind_ok (map_fault (scalar t 0 8 int64 (pos 0))) _ _ plain.1 in
    let nodes = bind_ok (numbers_at t 1) _ _ n.2 in
    let buffers = bind_ok (numbers_at t 2) _ _ nodes.2 in
    let read : BatchHead = record { length = n.0; nodes = nodes.0; buffers = buffers.0 } in
    let e : read ≡ batch = batch_same read batch buffers.2 in
    subst (λ b. BatchAt t b) e (record {
      length = lift_ok _ n.0 n.1;
      nodes = nodes.1;
      buffers = buffers.1;
      uncompressed = lift_ok _ o.0 o.1 ∙ ap Ok plain.0;
    })
