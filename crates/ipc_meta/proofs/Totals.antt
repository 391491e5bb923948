-- What the entries of a schema that was read have together is what its tables state.
use Rattle.std.proofs.Common.{◌≡◌, ◌∙◌, refl, sym, ap, subst, ℕ, zero, suc, ◌+◌, ◌-◌, List, [], ◌∷◌, map, length, length-append, arith}
use Rattle.std.specs.Prelude.{sum_by, Ok}
use Rattle.std.proofs.lemmas.List.Sums.{sum_by-append, sum_by-cons}
use Rattle.ipc_flat.specs.Views.{TableView}
use Rattle.ipc_model.specs.Entries.{Entry, Listing, entry_of, preorder, preorder_step, all_at, entries, pair_text, kind_text}
use Rattle.ipc_model.specs.declared.schema.Field.{Field, roll-Field, fold-roll-Field, map-Field}
use Rattle.ipc_model.specs.declared.schema.Field.TheOpen.{Field-F}
use Rattle.ipc_meta.specs.declared.budget.Budget.{Budget}
use Rattle.ipc_meta.specs.Budgets.{less_fields}
use Rattle.ipc_meta.specs.Tables.{flag_at, vector_at, type_at, dictionary_at}
use Rattle.ipc_meta.specs.Fields.{TablesAt, VectorAt, PairAt}
use Rattle.ipc_meta.specs.Reading.{text_read, pairs_read, type_read, fields_read, field_read}
use Rattle.ipc_meta.specs.Totals.{or_zero, sum_tables, count_in, sum_in, text_len_at, timezone_len_at, pair_text_in, own_text, tree_sum}
use Rattle.ipc_meta.specs.Totals.{total_fields}
use Rattle.ipc_meta.specs.Totals.{total_text}
use Rattle.ipc_meta.specs.Totals.{total_pairs}
use Rattle.ipc_meta.proofs.Sound.{Sound, left_parts, each_sound, text_sound, type_sound, pairs_sound}
use Rattle.ipc_meta.proofs.Entries.{tables_are}
use Rattle.ipc_meta.proofs.Spent.{children_in, pairs_in}
use Rattle.ipc_model.specs.declared.limits.Limits.{Limits}
use Rattle.ipc_meta.proofs.Binds.{bind_ok}
use Rattle.ipc_meta.proofs.StatedTypes.{type_stated, timezone_len}

abbrev text_of : List Entry → ℕ
text_of es = sum_by (λ e. e.text) es

abbrev pairs_of : List Entry → ℕ
pairs_of es = sum_by (λ e. e.pairs) es

-- the texts of pairs
pairs_sum : (z : List ℕ) (ps : List (List ℕ × List ℕ)) (p n : ℕ) → TablesAt PairAt z p n ps → sum_tables pair_text_in z p n ≡ pair_text ps
unfolding sum_tables
pairs_sum z [] p n h = rw h refl
pairs_sum z (x ∷ ps) p n h =
    let size : n ≡ suc (n - 1) = (let l = h.1 in omega arith) in
    rw (size, h.2, h.3.0, h.3.1, pairs_sum z ps (p + 4) (n - 1) h.4) refl

pair_total : (t : TableView) (k : ℕ) (ps : List (List ℕ × List ℕ)) → VectorAt PairAt ps t k → sum_in pair_text_in t k ≡ pair_text ps
pair_total t k ps h = ap (or_zero (λ es. sum_tables pair_text_in es.bytes es.at es.len)) h.1 ∙ pairs_sum h.0.bytes ps h.0.at h.0.len h.2

pair_count : (t : TableView) (k : ℕ) (ps : List (List ℕ × List ℕ)) → VectorAt PairAt ps t k → count_in t k ≡ length ps
pair_count t k ps h = ap (or_zero (λ es. es.len)) h.1 ∙ tables_are PairAt h.0.bytes ps h.0.at h.0.len h.2

-- a field with its descendants has what the table states, within so many levels
abbrev SumsAre : ℕ → Field → TableView → Type 0
SumsAre n f u = (d : ℕ) → (length (preorder f d) ≡ 1 + tree_sum children_in n u) × (text_of (preorder f d) ≡ tree_sum own_text n u)
    × (pairs_of (preorder f d) ≡ tree_sum pairs_in n u)

each_sums : (n : ℕ) (z : List ℕ) (fs : List Field) (p k : ℕ) → TablesAt (SumsAre n) z p k fs → (d : ℕ)
    → (length (all_at d (map preorder fs)) ≡ length fs + sum_tables (tree_sum children_in n) z p k)
    × (text_of (all_at d (map preorder fs)) ≡ sum_tables (tree_sum own_text n) z p k)
    × (pairs_of (all_at d (map preorder fs)) ≡ sum_tables (tree_sum pairs_in n) z p k)
unfolding sum_tables
each_sums n z [] p k h d = rw h (refl, refl, refl)
each_sums n z (f ∷ fs) p k h d =
    let size : k ≡ suc (k - 1) = (let l = h.1 in omega arith) in
    let here = h.3 d in
    let there = each_sums n z fs (p + 4) (k - 1) h.4 d in
    let count = length-append (preorder f d) (all_at d (map preorder fs)) in
    let text = sum_by-append (λ e. e.text) (preorder f d) (all_at d (map preorder fs)) in
    let pairs = sum_by-append (λ e. e.pairs) (preorder f d) (all_at d (map preorder fs)) in
    rw (size, h.2) (omega (arith, here.0, there.0, count), omega (arith, here.1, there.1, text), omega (arith, here.2, there.2, pairs))

-- the same of the fields of a vector
vector_sums : (n : ℕ) (t : TableView) (k : ℕ) (fs : List Field) → VectorAt (SumsAre n) fs t k → (d : ℕ)
    → (length (all_at d (map preorder fs)) ≡ count_in t k + sum_in (tree_sum children_in n) t k)
    × (text_of (all_at d (map preorder fs)) ≡ sum_in (tree_sum own_text n) t k)
    × (pairs_of (all_at d (map preorder fs)) ≡ sum_in (tree_sum pairs_in n) t k)
vector_sums n t k fs h d =
    let many = tables_are (SumsAre n) h.0.bytes fs h.0.at h.0.len h.2 in
    let sums = each_sums n h.0.bytes fs h.0.at h.0.len h.2 d in
    let number : count_in t k ≡ h.0.len = ap (or_zero (λ es. es.len)) h.1 in
    let sum_a : sum_in (tree_sum children_in n) t k ≡ sum_tables (tree_sum children_in n) h.0.bytes h.0.at h.0.len =
    ap (or_zero (λ es. sum_tables (tree_sum children_in n) es.bytes es.at es.len)) h.1 in
    let sum_b : sum_in (tree_sum own_text n) t k ≡ sum_tables (tree_sum own_text n) h.0.bytes h.0.at h.0.len =
    ap (or_zero (λ es. sum_tables (tree_sum own_text n) es.bytes es.at es.len)) h.1 in
    let sum_c : sum_in (tree_sum pairs_in n) t k ≡ sum_tables (tree_sum pairs_in n) h.0.bytes h.0.at h.0.len =
    ap (or_zero (λ es. sum_tables (tree_sum pairs_in n) es.bytes es.at es.len)) h.1 in
    (omega (arith, sums.0, many, number, sum_a), sums.1 ∙ sym sum_b, sums.2 ∙ sym sum_c)

fields_sums : (n : ℕ) → Sound (field_read n) (SumsAre n) → (t : TableView) (k : ℕ) (left after : Budget) (fs : List Field)
    → fields_read (field_read n) t k left ≡ Ok (fs, after) → VectorAt (SumsAre n) fs t k
unfolding fields_read
fields_sums n s t k left after fs h =
    let v = bind_ok (vector_at t k) _ _ h in
    let l = bind_ok (less_fields v.0.len left) _ _ v.2 in
    (v.0, v.1, each_sound (field_read n) (SumsAre n) s v.0.bytes v.0.len v.0.at l.0 after fs l.2)

one_more : (a b : ℕ) → a ≡ b → suc a ≡ 1 + b
one_more a b h = omega arith

text_sum : (a b c x y z u v : ℕ) → a ≡ x → b ≡ y → c ≡ z → u ≡ v → (x + y + z) + u ≡ (a + b + c) + v
text_sum a b c x y z u v h k l m = omega arith

-- a field's own entry before those of its children
rolled_sums : (n : ℕ) (y : Field-F Field) (t : TableView) → text_len_at t 0 ≡ length y.name → timezone_len_at t
    ≡ kind_text y.kind
    → sum_in pair_text_in t 6 ≡ pair_text y.metadata → count_in t 6 ≡ length y.metadata
    → ((d : ℕ) → (length (all_at d (map preorder y.children)) ≡ count_in t 5 + sum_in (tree_sum children_in n) t 5)
    × (text_of (all_at d (map preorder y.children)) ≡ sum_in (tree_sum own_text n) t 5)
    × (pairs_of (all_at d (map preorder y.children)) ≡ sum_in (tree_sum pairs_in n) t 5))
    → SumsAre (suc n) (roll-Field y) t
unfolding tree_sum
rolled_sums n y t title zone words number children d =
    let rolled = fold-roll-Field Listing preorder_step y in
    let sums = children (d + 1) in
    let head = entry_of (map-Field Field Listing preorder y) d in
    let below = all_at (d + 1) (map preorder y.children) in
    let text : text_of (head ∷ below) ≡ own_text t + sum_in (tree_sum own_text n) t 5
    = sum_by-cons (λ (e : Entry). e.text) head below
    ∙ text_sum (text_len_at t 0) (timezone_len_at t) (sum_in pair_text_in t 6) _ _ _ _ _ title zone words sums.1 in
    let pairs : pairs_of (head ∷ below) ≡ pairs_in t + sum_in (tree_sum pairs_in n) t 5
    = sum_by-cons (λ (e : Entry). e.pairs) head below ∙ (ap (λ k. k + pairs_of below) (sym number) ∙ ap (λ k. pairs_in t + k) sums.2) in
    let count : length (head ∷ below) ≡ 1 + (children_in t + sum_in (tree_sum children_in n) t 5) = one_more (length below) _ sums.0 in
    subst (λ (l : Listing). (length (l d) ≡ 1 + (children_in t + sum_in (tree_sum children_in n) t 5))
    × (text_of (l d) ≡ own_text t + sum_in (tree_sum own_text n) t 5) × (pairs_of (l d) ≡ pairs_in t + sum_in (tree_sum pairs_in n) t 5))
    (sym rolled)
    (count, text, pairs)

field_sums : (n : ℕ) → Sound (field_read n) (SumsAre n)
unfolding field_read tree_sum
field_sums zero t left after x h = absurd (cc)
field_sums (suc n) t left after x h =
    let name = bind_ok (text_read t 0 left) _ _ h in
    let nullable = bind_ok (flag_at t 1) _ _ name.2 in
    let κ = bind_ok (type_read t name.0.1) _ _ nullable.2 in
    let o = bind_ok (dictionary_at t) _ _ κ.2 in
    let ps = bind_ok (pairs_read t 6 κ.0.1) _ _ o.2 in
    let cs = bind_ok (fields_read (field_read n) t 5 ps.0.1) _ _ ps.2 in
    let y : Field-F Field = record {
      name = name.0.0;
      nullable = nullable.0;
      kind = κ.0.0;
      dictionary = o.0;
      children = cs.0.0;
      metadata = ps.0.0;
    } in
    let e = left_parts (roll-Field y) x cs.0.1 after cs.2 in
    let title : text_len_at t 0 ≡ length name.0.0 = ap (or_zero length) (text_sound t 0 left name.0.1 name.0.0 name.1) in
    let zone = timezone_len t κ.0.0 (type_stated t κ.0.0 (type_sound t name.0.1 κ.0.1 κ.0.0 κ.1)) in
    let pairs = pairs_sound t 6 κ.0.1 ps.0.1 ps.0.0 ps.1 in
    let children = fields_sums n (field_sums n) t 5 ps.0.1 cs.0.1 cs.0.0 cs.1 in
    subst (λ f. SumsAre (suc n) f t) e.0 (rolled_sums n y t title zone (pair_total t 6 ps.0.0 pairs) (pair_count t 6 ps.0.0 pairs)
    (vector_sums n t 5 cs.0.0 children))

-- a schema that was read has what its table states
pub record Totals (limits : Limits) (t : TableView) (fs : List Field) (own : List (List ℕ × List ℕ)) : Type 0 where
  pub fields : length (entries fs) ≡ total_fields limits t
  pub text : pair_text own + text_of (entries fs) ≡ total_text limits t
  pub pairs : length own + pairs_of (entries fs) ≡ total_pairs limits t

-- a schema that was read has as many fields, bytes of text and pairs as its Schema table states
pub schema_totals : {limits : Limits} → (t : TableView) (left mid after : Budget) (fs : List Field) (own : List (List ℕ × List ℕ))
    → pairs_read t 2 left ≡ Ok (own, mid) → fields_read (field_read limits.depth) t 1 mid ≡ Ok (fs, after) → Totals limits t fs own
schema_totals {limits} t left mid after fs own p h =
    let ps = pairs_sound t 2 left mid own p in
    let sums = vector_sums limits.depth t 1 fs (fields_sums limits.depth (field_sums limits.depth) t 1 mid after fs h) 1 in
    record {
      fields = sums.0;
      text = omega (arith, sums.1, pair_total t 2 own ps);
      pairs = omega (arith, sums.2, pair_count t 2 own ps);
    }
