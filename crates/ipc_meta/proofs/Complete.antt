-- What the tables state is what is read, where it is within the budget.
use Rattle.std.proofs.Common.{◌≡◌, ◌∙◌, refl, sym, ap, subst, ℕ, zero, suc, ◌+◌, ◌-◌, ◌<◌, ◌≤◌, true, List, [], ◌∷◌, map, length}
use Rattle.std.proofs.Common.{nat_le, le-leb, length-append, arith}
use Rattle.std.specs.Prelude.{sum_by, Ok}
use Rattle.std.proofs.lemmas.List.Sums.{sum_by-append, sum_by-cons}
use Rattle.ipc_flat.specs.Views.{TableView}
use Rattle.ipc_model.specs.Entries.{Entry, Listing, entry_of, preorder, preorder_step, all_at, entries, pair_text, kind_text}
use Rattle.ipc_model.specs.declared.schema.DataType.{DataType}
use Rattle.ipc_model.specs.declared.schema.Field.{Field, roll-Field, out-Field, ind-Field, fold-roll-Field, fold_out-Field, map-Field}
use Rattle.ipc_model.specs.declared.schema.Field.TheOpen.{Field-F}
use Rattle.ipc_model.specs.declared.schema.Schema.{Schema}
use Rattle.ipc_model.proofs.Depths.{AreShallow, both_shallow, none_deeper}
use Rattle.ipc_meta.specs.declared.budget.Budget.{Budget}
use Rattle.ipc_meta.specs.declared.head.BatchHead.{BatchHead}
use Rattle.ipc_meta.specs.Budgets.{less_fields, less_text, less_pairs}
use Rattle.ipc_meta.specs.Tables.{text_at, type_at}
use Rattle.ipc_meta.specs.Fields.{TablesAt, VectorAt, PairAt, FieldAt, SchemaAt}
use Rattle.ipc_meta.specs.Heads.{BatchAt, PairsAt}
use Rattle.ipc_meta.specs.Totals.{message_pairs}
use Rattle.ipc_meta.specs.Reading.{batch_read, each, text_read, pair_read, pairs_read, type_read, fields_read, field_read}
use Rattle.ipc_meta.proofs.Entries.{tables_are}
use Rattle.ipc_meta.proofs.Sound.{field_roll}
use Rattle.ipc_meta.proofs.StatedTypes.{type_back, dictionary_back}
use Rattle.ipc_model.specs.declared.limits.Limits.{Limits}

-- so many fields, bytes of text and pairs
abbrev pub budget : ℕ → ℕ → ℕ → Budget
budget a b c = record { fields = a; text = b; pairs = c }

-- ---- the budget

less_text_is : (n a b c m : ℕ) → n + m ≡ b → less_text n (budget a b c) ≡ Ok (budget a m c)
less_text_is n a b c m h =
    let fits : nat_le n b ≡ true = le-leb n b (omega arith) in
    let rest : b - n ≡ m = omega arith in
    rw (fits, rest) refl

less_pairs_is : (n a b c m : ℕ) → n + m ≡ c → less_pairs n (budget a b c) ≡ Ok (budget a b m)
less_pairs_is n a b c m h =
    let fits : nat_le n c ≡ true = le-leb n c (omega arith) in
    let rest : c - n ≡ m = omega arith in
    rw (fits, rest) refl

less_fields_is : (n a b c m : ℕ) → n + m ≡ a → less_fields n (budget a b c) ≡ Ok (budget m b c)
less_fields_is n a b c m h =
    let fits : nat_le n a ≡ true = le-leb n a (omega arith) in
    let rest : a - n ≡ m = omega arith in
    rw (fits, rest) refl

-- ---- texts and pairs

text_complete : (t : TableView) (k : ℕ) (s : List ℕ) (a b c m : ℕ) → text_at t k ≡ Ok s → length s + m ≡ b
    → text_read t k (budget a b c) ≡ Ok (s, budget a m c)
unfolding text_read
text_complete t k s a b c m h e = rw (h, less_text_is (length s) a b c m e) refl

pair_complete : (t : TableView) (p : List ℕ × List ℕ) (a b c m : ℕ) → PairAt p t → length p.0 + length p.1 + m ≡ b
    → pair_read t (budget a b c) ≡ Ok (p, budget a m c)
unfolding pair_read
pair_complete t p a b c m h e =
    rw (text_complete t 0 p.0 a b c (length p.1 + m) h.0 (omega arith), text_complete t 1 p.1 a (length p.1 + m) c m h.1 refl) refl

each_pair : (s : List ℕ) (ps : List (List ℕ × List ℕ)) (p n a b c m : ℕ) → TablesAt PairAt s p n ps → pair_text ps + m ≡ b
    → each pair_read s p n (budget a b c) ≡ Ok (ps, budget a m c)
unfolding each
each_pair s [] p n a b c m h e =
    let same : b ≡ m = omega arith in
    rw (h, same) refl
each_pair s (x ∷ ps) p n a b c m h e =
    let size : n ≡ suc (n - 1) = (let l = h.1 in omega arith) in
    rw (
      size,
      h.2,
      pair_complete h.0 x a b c (pair_text ps + m) h.3 (omega arith),
      each_pair s ps (p + 4) (n - 1) a (pair_text ps + m) c m h.4 refl,
    ) refl

-- pairs that a table states are read where the budget has room for them, and take their text and their number of it
pub pairs_complete : (t : TableView) (k : ℕ) (ps : List (List ℕ × List ℕ)) (a b c m q : ℕ) → VectorAt PairAt ps t k → pair_text ps + m ≡ b
    → length ps + q ≡ c
    → pairs_read t k (budget a b c) ≡ Ok (ps, budget a m q)
unfolding pairs_read
pairs_complete t k ps a b c m q h e f =
    let many = tables_are PairAt h.0.bytes ps h.0.at h.0.len h.2 in
    rw (h.1, less_pairs_is h.0.len a b c q (omega arith), each_pair h.0.bytes ps h.0.at h.0.len a b q m h.2 e) refl

-- ---- the type

type_complete : (t : TableView) (κ : DataType) (a b c m : ℕ) → type_at t ≡ Ok κ → kind_text κ + m ≡ b
    → type_read t (budget a b c) ≡ Ok (κ, budget a m c)
unfolding type_read
type_complete t κ a b c m h e = rw (h, less_text_is (kind_text κ) a b c m e) refl

-- ---- entries

abbrev text_of : List Entry → ℕ
text_of es = sum_by (λ e. e.text) es

abbrev pairs_of : List Entry → ℕ
pairs_of es = sum_by (λ e. e.pairs) es

some_entry : (f : Field) (d : ℕ) → 0 < length (preorder f d)
some_entry f d =
    let out : preorder f d ≡ preorder_step (map-Field Field Listing preorder (out-Field f)) d =
    ap (λ (l : Listing). l d) (fold_out-Field Listing preorder_step f) in
    rw out (omega arith)

many_entries : (fs : List Field) (d : ℕ) → length fs ≤ length (all_at d (map preorder fs))
many_entries [] d = omega arith
many_entries (f ∷ fs) d = omega (arith, length-append (preorder f d) (all_at d (map preorder fs)), some_entry f d, many_entries fs d)

-- ---- fields

-- what is counted of these entries, n of them before, takes a, b and c to r, m and q
abbrev Counted : List Entry → ℕ → ℕ → ℕ → ℕ → ℕ → ℕ → ℕ → Type 0
Counted es n a b c r m q = (length es + r ≡ a + n) × (text_of es + m ≡ b) × (pairs_of es + q ≡ c)

-- with at most so many levels
module _ (limit : ℕ) where
  abbrev IsReadBack : Field → Type 0
  IsReadBack f = (n d : ℕ) (t : TableView) (a b c r m q : ℕ) → FieldAt f t → n + d ≡ limit + 1 → AreShallow limit (preorder f d)
      → Counted (preorder f d) 1 a b c r m q
      → field_read n t (budget a b c) ≡ Ok (f, budget r m q)

  abbrev Shown : Type 0
  Shown = (f : Field) × IsReadBack f

  abbrev fields_of : List Shown → List Field
  fields_of cs = map (λ c. c.0) cs

  each_field : (s : List ℕ) (cs : List Shown) (n d p k a b c r m q : ℕ) → TablesAt FieldAt s p k (fields_of cs) → n + d ≡ limit + 1
      → AreShallow limit (all_at d (map preorder (fields_of cs)))
      → Counted (all_at d (map preorder (fields_of cs))) k a b c r m q
      → each (field_read n) s p k (budget a b c) ≡ Ok (fields_of cs, budget r m q)
  unfolding each
  each_field s [] n d p k a b c r m q h deep w e =
      let x : a ≡ r = (let z = e.0 in omega arith) in
      let y : b ≡ m = (let z = e.1 in omega arith) in
      let z : c ≡ q = (let z = e.2 in omega arith) in
      rw (h, x, y, z) refl
  each_field s (f ∷ cs) n d p k a b c r m q h deep w e =
      let here = preorder f.0 d in
      let there = all_at d (map preorder (fields_of cs)) in
      let size : k ≡ suc (k - 1) = (let l = h.1 in omega arith) in
      let count = length-append here there in
      let text = sum_by-append (λ e. e.text) here there in
      let pairs = sum_by-append (λ e. e.pairs) here there in
      let several = many_entries (fields_of cs) d in
      let many = tables_are FieldAt s (fields_of cs) (p + 4) (k - 1) h.4 in
      let deeper = both_shallow limit here there w in
      let e0 = e.0 in
      let e1 = e.1 in
      let e2 = e.2 in
      let first : field_read n h.0 (budget a b c) ≡ Ok (f.0, budget (a + 1 - length here) (text_of there + m) (pairs_of there + q))
      = f.1 n d h.0 a b c (a + 1 - length here) (text_of there + m) (pairs_of there + q) h.3 deep deeper.0
      (omega arith, omega arith, omega arith) in
      let others = each_field s cs n d (p + 4) (k - 1) (a + 1 - length here) (text_of there + m) (pairs_of there + q) r m q h.4 deep
      deeper.1
      (omega arith, refl, refl) in
      rw (size, h.2, first, others) refl

  children_complete : (t : TableView) (k : ℕ) (cs : List Shown) (n d a b c r m q : ℕ) → VectorAt FieldAt (fields_of cs) t k
      → n + d ≡ limit + 1
      → AreShallow limit (all_at d (map preorder (fields_of cs)))
      → Counted (all_at d (map preorder (fields_of cs))) 0 a b c r m q
      → fields_read (field_read n) t k (budget a b c) ≡ Ok (fields_of cs, budget r m q)
  unfolding fields_read
  children_complete t k cs n d a b c r m q h deep w e =
      let many = tables_are FieldAt h.0.bytes (fields_of cs) h.0.at h.0.len h.2 in
      let several = many_entries (fields_of cs) d in
      let e0 = e.0 in
      rw (
        h.1,
        less_fields_is h.0.len a b c (a - h.0.len) (omega arith),
        each_field h.0.bytes cs n d h.0.at h.0.len (a - h.0.len) b c r m q h.2 deep w (omega arith, e.1, e.2),
      ) refl

  roll_read : (y : Field-F Shown) → IsReadBack (roll-Field (map-Field Shown Field (λ c. c.0) y))
  unfolding field_read
  roll_read y zero d t a b c r m q h deep w e =
      let z : Field-F Field = map-Field Shown Field (λ c. c.0) y in
      let g : AreShallow limit (preorder_step (map-Field Field Listing preorder z) d) =
      subst (λ (l : Listing). AreShallow limit (l d)) (fold-roll-Field Listing preorder_step z) w in
      let shallow = g.0 in
      absurd (omega arith)
  roll_read y (suc n) d t a b c r m q h deep w e =
      let z : Field-F Field = map-Field Shown Field (λ c. c.0) y in
      let rolled = fold-roll-Field Listing preorder_step z in
      let below = all_at (d + 1) (map preorder (fields_of y.children)) in
      let g : AreShallow limit (preorder_step (map-Field Field Listing preorder z) d) =
      subst (λ (l : Listing). AreShallow limit (l d)) rolled w in
      let counted : Counted (entry_of (map-Field Field Listing preorder z) d ∷ below) 1 a b c r m q =
      subst (λ (l : Listing). Counted (l d) 1 a b c r m q) rolled e in
      let here = subst (λ (F : TableView → Type 0). F t) (field_roll z) h in
      let e0 = counted.0 in
      let head = entry_of (map-Field Field Listing preorder z) d in
      let e1 : (length y.name + kind_text y.kind + pair_text y.metadata) + text_of below + m ≡ b =
      ap (λ k. k + m) (sym (sum_by-cons (λ e. e.text) head below)) ∙ counted.1 in
      let e2 : length y.metadata + pairs_of below + q ≡ c = ap (λ k. k + q) (sym (sum_by-cons (λ e. e.pairs) head below)) ∙ counted.2 in
      let name = text_complete t 0 y.name a b c (kind_text y.kind + (pair_text y.metadata + (text_of below + m))) here.0 (omega arith) in
      let κ = type_complete t y.kind a (kind_text y.kind + (pair_text y.metadata + (text_of below + m))) c
      (pair_text y.metadata + (text_of below + m)) (type_back t y.kind here.2) refl in
      let ps = pairs_complete t 6 y.metadata a (pair_text y.metadata + (text_of below + m)) c (text_of below + m)
      (pairs_of below + q) here.4 refl (omega arith) in
      let cs = children_complete t 5 y.children n (d + 1) a (text_of below + m) (pairs_of below + q) r m q here.5 (omega arith) g.1
      (omega arith, refl, refl) in
      rw (name, here.1, κ, dictionary_back t y.dictionary here.3, ps, cs) refl

  -- each field that a table states is read of it where the budget has room for it and all below it
  pub field_complete : (f : Field) → IsReadBack f
  field_complete = ind-Field IsReadBack (λ x y is. subst (λ z. IsReadBack (roll-Field z)) is (roll_read y))

  shown : List Field → List Shown
  shown fs = map (λ f. (f, field_complete f)) fs

  shown_are : (fs : List Field) → fields_of (map (λ f. (f, field_complete f)) fs) ≡ fs
  shown_are [] = refl
  shown_are (f ∷ fs) = ap (λ gs. f ∷ gs) (shown_are fs)

  -- the fields that a vector of tables states are read of it where the budget has room for them and all below them
  pub columns_complete : (t : TableView) (k : ℕ) (fs : List Field) (n d a b c r m q : ℕ) → VectorAt FieldAt fs t k → n + d ≡ limit + 1
      → AreShallow limit (all_at d (map preorder fs))
      → Counted (all_at d (map preorder fs)) 0 a b c r m q → fields_read (field_read n) t k (budget a b c) ≡ Ok (fs, budget r m q)
  columns_complete t k fs n d a b c r m q =
      subst (λ gs. VectorAt FieldAt gs t k → n + d ≡ limit + 1 → AreShallow limit (all_at d (map preorder gs))
      → Counted (all_at d (map preorder gs)) 0 a b c r m q → fields_read (field_read n) t k (budget a b c) ≡ Ok (gs, budget r m q))
      (shown_are fs) (children_complete t k (map (λ f. (f, field_complete f)) fs) n d a b c r m q)

-- ---- schemas and batches

-- the schema that a table states is read of it, first its pairs and then its columns
pub record SchemaRead (limits : Limits) (t : TableView) (s : Schema) : Type 0 where
  pub mid : Budget
  pub after : Budget
  pub pairs : pairs_read t 2 (budget limits.fields limits.text limits.pairs) ≡ Ok (s.metadata, mid)
  pub fields : fields_read (field_read limits.depth) t 1 mid ≡ Ok (s.fields, after)

-- a schema that a Schema table states within the limits is read of that table
pub schema_complete : {limits : Limits} → (t : TableView) (s : Schema) → SchemaAt limits t s → SchemaRead limits t s
schema_complete {limits} t s h =
    let w = h.well_formed in
    let few = w.few_fields in
    let little = w.little_text in
    let several = w.few_pairs in
    let es = entries s.fields in
    record {
      mid = budget limits.fields (limits.text - pair_text s.metadata) (limits.pairs - length s.metadata);
      after = budget (limits.fields - length es) (limits.text - pair_text s.metadata - text_of es) (limits.pairs - length s.metadata -
          pairs_of es);
      pairs = pairs_complete t 2 s.metadata limits.fields limits.text limits.pairs (limits.text - pair_text s.metadata) (limits.pairs -
          length s.metadata) h.pairs
          (omega arith) (omega arith);
      fields = columns_complete limits.depth t 1 s.fields limits.depth 1 limits.fields (limits.text - pair_text s.metadata) (limits.pairs -
          length s.metadata)
          (limits.fields - length es)
          (limits.text - pair_text s.metadata - text_of es) (limits.pairs - length s.metadata - pairs_of es)
          h.fields (omega arith) (none_deeper limits es w.each) (omega arith, omega arith, omega arith);
    }

-- a batch's head that a RecordBatch table states is read of that table
pub batch_complete : (t : TableView) (batch : BatchHead) → BatchAt t batch → batch_read t ≡ Ok batch
unfolding batch_read
batch_complete t batch h = rw (h.uncompressed, h.length, h.nodes, h.buffers) refl

-- the pairs that a record batch's message states are read by a budget of the limits on texts and pairs
pub batch_pairs_complete : {limits : Limits} → (root : TableView) (ps : List (List ℕ × List ℕ)) → PairsAt limits root ps
    → (after : Budget) × (pairs_read root message_pairs (budget 0 limits.text limits.pairs) ≡ Ok (ps, after))
batch_pairs_complete {limits} root ps h =
    let few = h.allowed.few_pairs in
    let little = h.allowed.little_text in (
      budget 0 (limits.text - pair_text ps) (limits.pairs - length ps),
      pairs_complete root message_pairs ps 0 limits.text limits.pairs (limits.text - pair_text ps) (limits.pairs - length ps) h.stated
          (omega (arith, little)) (omega (arith, few)),
    )
