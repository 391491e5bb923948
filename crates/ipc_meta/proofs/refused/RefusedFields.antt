-- Where reading the fields of a schema fails, the fault's cause is true of the metadata.
use Rattle.std.proofs.Common.{◌≡◌, refl, ap, subst, ℕ, zero, suc, ◌+◌, ◌*◌, ◌<◌, ◌≤◌, List, ◌⊎◌, inl, inr, arith}
use Rattle.std.specs.Prelude.{length, nat_le, Ok, Err}
use Rattle.std.proofs.lemmas.Bool.Decides.{nat_tests}
use Rattle.ipc_flat.specs.Flat.{text_of}
use Rattle.ipc_flat.specs.Views.{TableView, Elements, table_from, field}
use Rattle.ipc_model.specs.Entries.{kind_text}
use Rattle.ipc_model.specs.declared.fault.Fault.{Fault}
use Rattle.ipc_model.specs.declared.fault.Fault.TheVariants as f
use Rattle.ipc_model.specs.declared.schema.Field.{Field}
use Rattle.ipc_meta.specs.declared.budget.Budget.{Budget}
use Rattle.ipc_meta.specs.Budgets.{Reading, less_fields, less_text, less_pairs}
use Rattle.ipc_meta.specs.FlatFaults.{map_fault}
use Rattle.ipc_meta.specs.Tables.{text_at, flag_at, vector_at, type_at, dictionary_at}
use Rattle.ipc_meta.specs.Reading.{each, text_read, pair_read, pairs_read, type_read, fields_read, field_read}
use Rattle.ipc_meta.specs.Reached as r
use Rattle.ipc_meta.specs.Reached.{TableKind, schema, batch_message, column, key_value, text, tables, ReadsField, HasTable, Element, IsDeep}
use Rattle.ipc_meta.specs.Reached.{at_field}
use Rattle.ipc_meta.specs.Totals.{or_zero, sum_tables, count_in, sum_in, text_len_at, timezone_len_at, pair_text_in, own_text, tree_sum}
use Rattle.ipc_meta.specs.Totals.{total_fields}
use Rattle.ipc_meta.specs.Totals.{total_text}
use Rattle.ipc_meta.specs.Totals.{total_pairs}
use Rattle.ipc_meta.specs.Totals.{message_pairs}
use Rattle.ipc_meta.specs.Causes.{Cause, in_schema, in_batch}
use Rattle.ipc_meta.proofs.refused.Refused.{step, illegible, bad_flag, bad_text, bad_vector}
use Rattle.ipc_meta.proofs.Texts.{no_table_from}
use Rattle.ipc_meta.proofs.refused.RefusedTypes.{type_refused, dictionary_refused}
use Rattle.ipc_meta.proofs.Spent.{Spent, less_pairs_spent, less_fields_spent, text_spent, pair_spent, pairs_spent, type_spent, field_spent}
use Rattle.ipc_meta.proofs.Spent.{sum_none, children_in, pairs_in}
use Rattle.ipc_model.specs.declared.limits.Limits.{Limits}
use Rattle.ipc_meta.proofs.Binds.{choose, lift_ok}
use Rattle.ipc_meta.proofs.StatedTypes.{type_stated, timezone_len}

-- how many fields, bytes of text and pairs are stated in all
pub record Stated : Type 0 where
  pub fields : ℕ
  pub text : ℕ
  pub pairs : ℕ

-- by a Schema table
abbrev pub by_schema : Limits → TableView → Stated
by_schema limits s = record { fields = total_fields limits s; text = total_text limits s; pairs = total_pairs limits s }

-- by the pairs of a record batch's message, which has as many fields as may be
abbrev pub by_message : Limits → TableView → Stated
by_message limits t = record {
  fields = limits.fields;
  text = sum_in pair_text_in t message_pairs;
  pairs = count_in t message_pairs;
}

-- where more text or more pairs are stated than the limits allow, this is why the metadata is refused
abbrev pub TellsOverrun : Limits → List ℕ → Stated → Type 0
TellsOverrun limits b all = (limits.text < all.text) ⊎ (limits.pairs < all.pairs) → Cause limits b f.TooMuchText

-- of a schema
schema_tells : {limits : Limits} (b : List ℕ) (s : TableView) → HasTable b schema s → TellsOverrun limits b (by_schema limits s)
schema_tells b s hs more = in_schema (s, hs, more)

-- with what is left, and with so much still to come, no less is stated than was taken and is to come
pub record Room (limits : Limits) (all : Stated) (left : Budget) (a b c : ℕ) : Type 0 where
  pub fields : limits.fields + a ≤ all.fields + left.fields
  pub text : limits.text + b ≤ all.text + left.text
  pub pairs : limits.pairs + c ≤ all.pairs + left.pairs

later : {limits : Limits} → (all : Stated) (left after : Budget) (a b c x y z p q r : ℕ) → Room limits all left p q r
    → Spent left after a b c → a + x ≤ p → b + y ≤ q
    → c + z ≤ r → Room limits all after x y z
later all left after a b c x y z p q r room spent u v w = record {
  fields = omega (arith, room.fields, spent.fields, u);
  text = omega (arith, room.text, spent.text, v);
  pairs = omega (arith, room.pairs, spent.pairs, w);
}

-- ---- the limits

text_counted : (limits : Limits) (b : List ℕ) (all : Stated) (n : ℕ) (left : Budget) (e : Fault) → TellsOverrun limits b all
    → limits.text + n ≤ all.text + left.text → less_text n left ≡ Err e → Cause limits b e
text_counted limits b all n left e hs room h =
    choose (nat_le n left.text) _ _ _ h (λ i k. absurd (cc))
    (λ i k. let same : f.TooMuchText ≡ e = cc in let more : left.text
    < n = grind (arith, nat_tests) in subst (Cause limits b) same (hs (inl (omega (arith, room, more)))))

pairs_counted : (limits : Limits) (b : List ℕ) (all : Stated) (n : ℕ) (left : Budget) (e : Fault) → TellsOverrun limits b all
    → limits.pairs + n ≤ all.pairs + left.pairs → less_pairs n left ≡ Err e → Cause limits b e
pairs_counted limits b all n left e hs room h =
    choose (nat_le n left.pairs) _ _ _ h (λ i k. absurd (cc))
    (λ i k. let same : f.TooMuchText ≡ e = cc in let more : left.pairs
    < n = grind (arith, nat_tests) in subst (Cause limits b) same (hs (inr (omega (arith, room, more)))))

fields_counted : (limits : Limits) (b : List ℕ) (s : TableView) (n : ℕ) (left : Budget) (e : Fault) → HasTable b schema s
    → limits.fields + n ≤ total_fields limits s + left.fields → less_fields n left ≡ Err e → Cause limits b e
fields_counted limits b s n left e hs room h =
    choose (nat_le n left.fields) _ _ _ h (λ i k. absurd (cc))
    (λ i k. let same : f.TooManyFields ≡ e = cc in let more : left.fields
    < n = grind (arith, nat_tests) in subst (Cause limits b) same (s, hs, omega (arith, room, more)))

-- ---- texts

text_refused : (limits : Limits) (b : List ℕ) (all : Stated) (kind : TableKind) (t : TableView) (k : ℕ) (left : Budget) (e : Fault)
    → TellsOverrun limits b all
    → limits.text + text_len_at t k ≤ all.text + left.text → HasTable b kind t → ReadsField kind k text
    → text_read t k left ≡ Err e → Cause limits b e
unfolding text_read text_at
text_refused limits b all kind t k left e hs room has look h =
    step (text_at t k) _ e h (λ h. step (map_fault (field t k text_of)) _ e h (bad_text limits b kind t k e has look)
    (λ o i bad. absurd (cc)))
    (λ x i h.
    let size : text_len_at t k ≡ length x = ap (or_zero length) i in
    step (less_text (length x) left) _ e h (text_counted limits b all (length x) left e hs (omega (arith, room, size))) (λ l i bad. absurd
    (cc)))

pair_refused : (limits : Limits) (b : List ℕ) (all : Stated) (t : TableView) (left : Budget) (e : Fault) → TellsOverrun limits b all
    → limits.text + pair_text_in t ≤ all.text + left.text → HasTable b key_value t → pair_read t left ≡ Err e → Cause limits b e
unfolding pair_read
pair_refused limits b all t left e hs room has h =
    step (text_read t 0 left) _ e h (text_refused limits b all key_value t 0 left e hs (omega (arith, room)) has r.key) (λ x i h.
    let spent = (text_spent t 0 left x i).text in
    step (text_read t 1 x.1) _ e h (text_refused limits b all key_value t 1 x.1 e hs (omega (arith, room, spent)) has r.value)
    (λ y i bad. absurd (cc)))

-- ---- tables one after another

-- what g reads of a table takes so much
abbrev Takes : {X : Type 0} → (TableView → Reading X) → (TableView → ℕ) → (TableView → ℕ) → (TableView → ℕ) → Type 0
Takes {X} g wa wb wc = (t : TableView) (left : Budget) (x : X × Budget) → g t left ≡ Ok x → Spent left x.1 (wa t) (wb t) (wc t)

-- one of several tables is not there, or is refused
each_refused : {limits : Limits} → {X P : Type 0} (g : TableView → Reading X) (wa wb wc : TableView
    → ℕ) (all : Stated) (z : List ℕ) (e : Fault)
    → Takes g wa wb wc → (n p : ℕ) (left : Budget) → Room limits all left (sum_tables wa z p n) (sum_tables wb z p n) (sum_tables wc z p n)
    → each g z p n left ≡ Err e → ((i : ℕ) → i < n → map_fault (table_from z (p + i * 4)) ≡ Err e → P)
    → ((i : ℕ) (u : TableView) (l : Budget) → i < n → table_from z (p + i * 4) ≡ Ok u → Room limits all l (wa u) (wb u) (wc u)
    → g u l ≡ Err e → P)
    → P
unfolding each sum_tables
each_refused {limits} g wa wb wc all z e takes zero p left room h lost bad = absurd (cc)
each_refused {limits} g wa wb wc all z e takes (suc n) p left room h lost bad =
    let first : p + 0 * 4 ≡ p = omega arith in
    step (map_fault (table_from z p)) _ e h (λ h. lost 0 (omega arith) (rw first h)) (λ u i h.
    let at : table_from z p ≡ Ok u = lift_ok (table_from z p) u i in
    let now : Room limits all left (wa u + sum_tables wa z (p + 4) n) (wb u + sum_tables wb z (p + 4) n) (wc u + sum_tables wc z (p + 4) n)
    = subst (λ o. Room limits all left (or_zero wa o + sum_tables wa z (p + 4) n) (or_zero wb o + sum_tables wb z (p + 4) n)
    (or_zero wc o + sum_tables wc z (p + 4) n)) at room in
    step (g u left) _ e h
    (λ h. bad 0 u left (omega arith) (rw first at)
    (record { fields = omega (arith, now.fields); text = omega (arith, now.text); pairs = omega (arith, now.pairs) }) h) (λ x j h.
    let next : Room limits all x.1 (sum_tables wa z (p + 4) n) (sum_tables wb z (p + 4) n) (sum_tables wc z (p + 4) n)
    = later all left x.1 (wa u) (wb u) (wc u) _ _ _ _ _ _ now (takes u left x j) (omega arith) (omega arith) (omega arith) in
    step (each g z (p + 4) n x.1) _ e h (λ h.
    each_refused g wa wb wc all z e takes n (p + 4) x.1 next h
    (λ i l h. let next : p + suc i * 4 ≡ p + 4 + i * 4 = omega arith in lost (suc i) (omega arith) (rw next h))
    (λ i u m l at room h. let next : p + suc i * 4 ≡ p + 4 + i * 4 = omega arith in bad (suc i) u m (omega arith) (rw next at) room h))
    (λ xs i bad. absurd (cc))))

-- the tables of a vector
elements_refused : {limits : Limits} → {X : Type 0} (g : TableView → Reading X) (wa wb wc : TableView
    → ℕ) (b : List ℕ) (all : Stated) (kind : TableKind)
    (t : TableView) (k : ℕ) (es : Elements) (left : Budget) (e : Fault) → Takes g wa wb wc → HasTable b kind t → ReadsField kind k tables
    → vector_at t k ≡ Ok es → Room limits all left (sum_tables wa es.bytes es.at es.len) (sum_tables wb es.bytes es.at es.len)
    (sum_tables wc es.bytes es.at es.len)
    → ((u : TableView) (l : Budget) → Element t k u → Room limits all l (wa u) (wb u) (wc u) → g u l ≡ Err e → Cause limits b e)
    → each g es.bytes es.at es.len left ≡ Err e → Cause limits b e
elements_refused {limits} g wa wb wc b all kind t k es left e takes has look is room bad h =
    each_refused g wa wb wc all es.bytes e takes es.len es.at left room h
    (λ i l h. illegible limits b (table_from es.bytes (es.at + i * 4)) e h (λ o. absurd (no_table_from es.bytes (es.at + i * 4) o))
    (λ ill. at_field has look (inr (es, i, is, l, ill))))
    (λ i u m l at room h. bad u m (es, i, is, l, at) room h)

-- where the pairs of a table can't be read with what is left, the fault's cause is true of the metadata
pub pairs_refused : {limits : Limits} → (b : List ℕ) (all : Stated) (kind : TableKind) (t : TableView) (k : ℕ) (left : Budget) (e : Fault)
    → TellsOverrun limits b all
    → Room limits all left 0 (sum_in pair_text_in t k) (count_in t k) → HasTable b kind t → ReadsField kind k tables
    → ((u : TableView) → Element t k u → HasTable b key_value u) → pairs_read t k left ≡ Err e → Cause limits b e
unfolding pairs_read
pairs_refused {limits} b all kind t k left e hs room has look pair h =
    step (vector_at t k) _ e h (bad_vector limits b kind t k e has look) (λ es is h.
    let sum : sum_in pair_text_in t k ≡ sum_tables pair_text_in es.bytes es.at es.len =
    ap (or_zero (λ es. sum_tables pair_text_in es.bytes es.at es.len)) is in
    let many : count_in t k ≡ es.len = ap (or_zero (λ es. es.len)) is in
    let none = sum_none es.bytes es.len es.at in
    step (less_pairs es.len left) _ e h (pairs_counted limits b all es.len left e hs (omega (arith, room.pairs, many)))
    (λ l i h.
    let next = later all left l 0 0 es.len (sum_tables (λ u. 0) es.bytes es.at es.len) (sum_tables pair_text_in es.bytes es.at es.len)
    (sum_tables (λ u. 0) es.bytes es.at es.len) 0 (sum_in pair_text_in t k) (count_in t k)
    room (less_pairs_spent es.len left l i) (omega (arith, none)) (omega (arith, sum)) (omega (arith, none, many)) in
    elements_refused pair_read (λ u. 0) pair_text_in (λ u. 0) b all kind t k es l e pair_spent has look is next
    (λ u m at room h. pair_refused limits b all u m e hs room.text (pair u at) h) h))

-- ---- fields

counted_type_refused : (limits : Limits) (b : List ℕ) (s t : TableView) (left : Budget) (e : Fault) → HasTable b schema s
    → limits.text + timezone_len_at t ≤ total_text limits s + left.text → HasTable b column t → type_read t left ≡ Err e
    → Cause limits b e
unfolding type_read
counted_type_refused limits b s t left e hs room has h =
    step (type_at t) _ e h (type_refused limits b t e has) (λ κ i h.
    let size : timezone_len_at t ≡ kind_text κ = timezone_len t κ (type_stated t κ i) in
    step (less_text (kind_text κ) left) _ e h (text_counted limits b (by_schema limits s) (kind_text κ) left e (schema_tells b s hs) (omega
    (arith, room, size))) (λ l j h.
    absurd (cc)))

fields_refused : {limits : Limits} → (g : TableView → Reading Field) (wa wb wc : TableView
    → ℕ) (b : List ℕ) (s : TableView) (kind : TableKind) (t : TableView)
    (k : ℕ) (left : Budget) (e : Fault) → HasTable b schema s → Takes g wa wb wc
    → Room limits (by_schema limits s) left (count_in t k + sum_in wa t k) (sum_in wb t k) (sum_in wc t k) → HasTable b kind t
    → ReadsField kind k tables
    → ((u : TableView) (l : Budget) → Element t k u → Room limits (by_schema limits s) l (wa u) (wb u) (wc u) → g u l ≡ Err e
    → Cause limits b e)
    → fields_read g t k left ≡ Err e → Cause limits b e
unfolding fields_read
fields_refused {limits} g wa wb wc b s kind t k left e hs takes room has look bad h =
    step (vector_at t k) _ e h (bad_vector limits b kind t k e has look) (λ es is h.
    let sum_a : sum_in wa t k ≡ sum_tables wa es.bytes es.at es.len = ap (or_zero (λ es. sum_tables wa es.bytes es.at es.len)) is in
    let sum_b : sum_in wb t k ≡ sum_tables wb es.bytes es.at es.len = ap (or_zero (λ es. sum_tables wb es.bytes es.at es.len)) is in
    let sum_c : sum_in wc t k ≡ sum_tables wc es.bytes es.at es.len = ap (or_zero (λ es. sum_tables wc es.bytes es.at es.len)) is in
    let many : count_in t k ≡ es.len = ap (or_zero (λ es. es.len)) is in
    step (less_fields es.len left) _ e h (fields_counted limits b s es.len left e hs (omega (arith, room.fields, many))) (λ l i h.
    let next = later (by_schema limits s) left l es.len 0 0 (sum_tables wa es.bytes es.at es.len) (sum_tables wb es.bytes es.at es.len)
    (sum_tables wc es.bytes es.at es.len) (count_in t k + sum_in wa t k) (sum_in wb t k) (sum_in wc t k)
    room (less_fields_spent es.len left l i) (omega (arith, many, sum_a)) (omega (arith, sum_b)) (omega (arith, sum_c)) in
    elements_refused g wa wb wc b (by_schema limits s) kind t k es l e takes has look is next bad h))

-- where a Field table, or one below it, can't be read with what is left, the fault's cause is true of the metadata
pub field_refused : {limits : Limits} → (b : List ℕ) (s : TableView) (depth n : ℕ) (t : TableView) (left : Budget) (e : Fault)
    → HasTable b schema s
    → Room limits (by_schema limits s) left (tree_sum children_in depth t) (tree_sum own_text depth t) (tree_sum pairs_in depth t)
    → IsDeep s n t
    → depth + n ≡ limits.depth + 1
    → HasTable b column t → field_read depth t left ≡ Err e → Cause limits b e
unfolding field_read tree_sum
field_refused {limits} b s zero n t left e hs room deep is has h = let same : f.TooDeep ≡ e =
    cc in subst (Cause limits b) same (s, hs, (t, n, omega arith, deep))
field_refused {limits} b s (suc depth) n t left e hs room deep is has h =
    let wa = sum_in (tree_sum children_in depth) t 5 in
    let wb = sum_in (tree_sum own_text depth) t 5 in
    let wc = sum_in (tree_sum pairs_in depth) t 5 in
    let zone = timezone_len_at t in
    let words = sum_in pair_text_in t 6 in
    step (text_read t 0 left) _ e h (text_refused limits b (by_schema limits s) column t 0 left e (schema_tells b s hs) (omega (
      arith,
      room.text,
    )) has r.name) (λ name i h.
    let one : Room limits (by_schema limits s) name.1 (count_in t 5 + wa) (zone + words + wb) (count_in t 6 + wc) =
    later (by_schema limits s) left name.1 0 (text_len_at t 0) 0 _ _ _ _ _ _ room (text_spent t 0 left name i) (omega arith) (omega arith)
    (omega arith) in
    step (flag_at t 1) _ e h (bad_flag limits b column t 1 e has r.nullable) (λ nullable i h.
    step (type_read t name.1) _ e h (counted_type_refused limits b s t name.1 e hs (omega (arith, one.text)) has) (λ κ j h.
    let two : Room limits (by_schema limits s) κ.1 (count_in t 5 + wa) (words + wb) (count_in t 6 + wc) =
    later (by_schema limits s) name.1 κ.1 0 zone 0 _ _ _ _ _ _ one (type_spent t name.1 κ j) (omega arith) (omega arith) (omega arith) in
    step (dictionary_at t) _ e h (dictionary_refused limits b t e has) (λ d i h.
    step (pairs_read t 6 κ.1) _ e h (pairs_refused {limits = limits} b (by_schema limits s) column t 6 κ.1 e (schema_tells b s hs)
    (record { fields = omega (arith, two.fields); text = omega (arith, two.text); pairs = omega (arith, two.pairs) }) has
    r.field_metadata (λ u at. r.of_field_pair has at)) (λ ps k h.
    let three : Room limits (by_schema limits s) ps.1 (count_in t 5 + wa) wb wc =
    later (by_schema limits s) κ.1 ps.1 0 words (count_in t 6) _ _ _ _ _ _ two (pairs_spent t 6 κ.1 ps k) (omega arith) (omega arith)
    (omega arith) in
    step (fields_read (field_read depth) t 5 ps.1) _ e h
    (fields_refused (field_read depth) (tree_sum children_in depth) (tree_sum own_text depth) (tree_sum pairs_in depth) b s column t 5 ps.1
    e hs
    (field_spent depth) three has r.children
    (λ u l at room h. field_refused b s depth (n + 1) u l e hs room (r.one_deeper deep at) (omega arith) (r.of_child has at) h))
    (λ cs i h. absurd (cc)))))))

-- ---- a schema: its own pairs, and then its columns

-- the whole budget
abbrev whole : Limits → Budget
whole limits = record { fields = limits.fields; text = limits.text; pairs = limits.pairs }

-- where a schema's own pairs can't be read, the fault's cause is true of the metadata
pub own_pairs_refused : (limits : Limits) (b : List ℕ) (s : TableView) (e : Fault) → HasTable b schema s
    → pairs_read s 2 (whole limits) ≡ Err e → Cause limits b e
own_pairs_refused limits b s e hs h = pairs_refused {limits = limits} b (by_schema limits s) schema s 2 (whole limits) e (schema_tells b s
    hs)
    (record { fields = omega arith; text = omega arith; pairs = omega arith }) hs r.schema_metadata (λ u at. r.of_schema_pair hs at) h

-- where a schema's columns can't be read behind its own pairs, the fault's cause is true of the metadata
pub columns_refused : (limits : Limits) (b : List ℕ) (s : TableView) (x : List (List ℕ × List ℕ) × Budget) (e : Fault) → HasTable b schema s
    → pairs_read s 2 (whole limits) ≡ Ok x → fields_read (field_read limits.depth) s 1 x.1 ≡ Err e → Cause limits b e
columns_refused limits b s x e hs p h =
    let spent = pairs_spent s 2 (whole limits) x p in
    fields_refused {limits = limits} (field_read limits.depth) (tree_sum children_in limits.depth) (tree_sum own_text limits.depth)
    (tree_sum pairs_in
    limits.depth) b s schema s 1 x.1 e hs (field_spent limits.depth)
    (record { fields = omega (arith, spent.fields); text = omega (arith, spent.text); pairs = omega (arith, spent.pairs) }) hs r.fields
    (λ u l at room h. field_refused b s limits.depth 1 u l e hs room (r.at_top at) refl (r.of_column hs at) h) h

-- what is left at first for the pairs of a record batch's message
abbrev pub for_batch : Limits → Budget
for_batch limits = record { fields = 0; text = limits.text; pairs = limits.pairs }

-- where the pairs of a record batch's message can't be read, the fault's cause is true of the metadata
pub batch_pairs_refused : (limits : Limits) (b : List ℕ) (t : TableView) (e : Fault) → HasTable b batch_message t
    → pairs_read t message_pairs (for_batch limits) ≡ Err e → Cause limits b e
batch_pairs_refused limits b t e has h = pairs_refused {limits = limits} b (by_message limits t) batch_message t message_pairs
    (for_batch limits) e (λ more. in_batch (t, has, more))
    (record { fields = omega arith; text = omega arith; pairs = omega arith }) has r.batch_metadata (λ u at. r.of_batch_pair has at) h
