-- What is read takes from the budget what the tables state.
use Rattle.std.proofs.Common.{◌≡◌, refl, ap, subst, ℕ, zero, suc, ◌+◌, ◌-◌, ◌≤◌, List, [], ◌∷◌, arith}
use Rattle.std.specs.Prelude.{length, nat_le, Result, Ok, Err}
use Rattle.std.proofs.lemmas.Bool.Decides.{nat_tests}
use Rattle.ipc_flat.specs.Views.{TableView, table_from}
use Rattle.ipc_model.specs.Entries.{kind_text, pair_text}
use Rattle.ipc_model.specs.declared.schema.DataType.{DataType}
use Rattle.ipc_model.specs.declared.schema.Field.{Field}
use Rattle.ipc_meta.specs.declared.budget.Budget.{Budget}
use Rattle.ipc_meta.specs.Budgets.{Reading, less_fields, less_text, less_pairs}
use Rattle.ipc_meta.specs.FlatFaults.{map_fault}
use Rattle.ipc_meta.specs.Tables.{text_at, flag_at, vector_at, type_at, dictionary_at}
use Rattle.ipc_meta.specs.Reading.{each, text_read, pair_read, pairs_read, type_read, fields_read, field_read}
use Rattle.ipc_meta.specs.Totals.{or_zero, sum_tables, count_in, sum_in, text_len_at, timezone_len_at, pair_text_in, own_text, tree_sum}
use Rattle.ipc_meta.proofs.Sound.{left_parts}
use Rattle.ipc_meta.proofs.Binds.{bind_ok, choose, lift_ok}
use Rattle.ipc_meta.proofs.StatedTypes.{type_stated, timezone_len}

-- left is what is left after, and so many fields, bytes of text and pairs more
pub record Spent (left after : Budget) (a b c : ℕ) : Type 0 where
  pub fields : left.fields ≡ a + after.fields
  pub text : left.text ≡ b + after.text
  pub pairs : left.pairs ≡ c + after.pairs

-- bytes of text that are taken from the budget are taken from its text alone
pub less_text_spent : (n : ℕ) (left after : Budget) → less_text n left ≡ Ok after → Spent left after 0 n 0
less_text_spent n left after h =
    choose (nat_le n left.text) _ _ _ h
    (λ i k. let fits : n ≤ left.text = grind (arith, nat_tests) in
    let same : record left { text = left.text - n } ≡ after = cc in
    subst (λ l. Spent left l 0 n 0) same (record { fields = omega arith; text = omega arith; pairs = omega arith }))
    (λ i k. absurd (cc))

-- pairs that are taken from the budget are taken from its pairs alone
pub less_pairs_spent : (n : ℕ) (left after : Budget) → less_pairs n left ≡ Ok after → Spent left after 0 0 n
less_pairs_spent n left after h =
    choose (nat_le n left.pairs) _ _ _ h
    (λ i k. let fits : n ≤ left.pairs = grind (arith, nat_tests) in
    let same : record left { pairs = left.pairs - n } ≡ after = cc in
    subst (λ l. Spent left l 0 0 n) same (record { fields = omega arith; text = omega arith; pairs = omega arith }))
    (λ i k. absurd (cc))

-- fields that are taken from the budget are taken from its fields alone
pub less_fields_spent : (n : ℕ) (left after : Budget) → less_fields n left ≡ Ok after → Spent left after n 0 0
less_fields_spent n left after h =
    choose (nat_le n left.fields) _ _ _ h
    (λ i k. let fits : n ≤ left.fields = grind (arith, nat_tests) in
    let same : record left { fields = left.fields - n } ≡ after = cc in
    subst (λ l. Spent left l n 0 0) same (record { fields = omega arith; text = omega arith; pairs = omega arith }))
    (λ i k. absurd (cc))

-- one after another
joined : (l m n : Budget) (a b c x y z : ℕ) → Spent l m a b c → Spent m n x y z → Spent l n (a + x) (b + y) (c + z)
joined l m n a b c x y z h k = record {
  fields = omega (arith, h.fields, k.fields);
  text = omega (arith, h.text, k.text);
  pairs = omega (arith, h.pairs, k.pairs);
}

-- a text that was read takes its length from the budget
pub text_spent : (t : TableView) (k : ℕ) (left : Budget) (x : List ℕ × Budget) → text_read t k left ≡ Ok x
    → Spent left x.1 0 (text_len_at t k) 0
unfolding text_read
text_spent t k left x h =
    let a = bind_ok (text_at t k) _ x h in
    let l = bind_ok (less_text (length a.0) left) _ x a.2 in
    let e = left_parts a.0 x.0 l.0 x.1 l.2 in
    let size : text_len_at t k ≡ length a.0 = ap (or_zero length) a.1 in
    subst (λ m. Spent left m 0 (text_len_at t k) 0) e.1 (rw size (less_text_spent (length a.0) left l.0 l.1))

-- a pair that was read takes the lengths of its key and its value from the budget
pub pair_spent : (t : TableView) (left : Budget) (x : (List ℕ × List ℕ) × Budget) → pair_read t left ≡ Ok x
    → Spent left x.1 0 (pair_text_in t) 0
unfolding pair_read
pair_spent t left x h =
    let k = bind_ok (text_read t 0 left) _ x h in
    let v = bind_ok (text_read t 1 k.0.1) _ x k.2 in
    let e = left_parts (k.0.0, v.0.0) x.0 v.0.1 x.1 v.2 in
    subst (λ m. Spent left m 0 (pair_text_in t) 0) e.1
    (joined left k.0.1 v.0.1 0 (text_len_at t 0) 0 0 (text_len_at t 1) 0 (text_spent t 0 left k.0 k.1) (text_spent t 1 k.0.1 v.0 v.1))

-- tables that were read one after another take from the budget what each of them takes, added up
pub each_spent : {X : Type 0} (g : TableView → Reading X) (wa wb wc : TableView → ℕ)
    → ((t : TableView) (left : Budget) (x : X × Budget) → g t left ≡ Ok x → Spent left x.1 (wa t) (wb t) (wc t))
    → (z : List ℕ) (n p : ℕ) (left : Budget) (x : List X × Budget) → each g z p n left ≡ Ok x
    → Spent left x.1 (sum_tables wa z p n) (sum_tables wb z p n) (sum_tables wc z p n)
unfolding each sum_tables
each_spent g wa wb wc s z zero p left x h = let e =
    left_parts [] x.0 left x.1 h in subst (λ m. Spent left m 0 0 0) e.1
    (record { fields = omega arith; text = omega arith; pairs = omega arith })
each_spent g wa wb wc s z (suc n) p left x h =
    let a = bind_ok (map_fault (table_from z p)) _ x h in
    let c = bind_ok (g a.0 left) _ x a.2 in
    let r = bind_ok (each g z (p + 4) n c.0.1) _ x c.2 in
    let e = left_parts (c.0.0 ∷ r.0.0) x.0 r.0.1 x.1 r.2 in
    let there = each_spent g wa wb wc s z n (p + 4) c.0.1 r.0 r.1 in
    rw (lift_ok (table_from z p) a.0 a.1)
    (subst (λ m. Spent left m (wa a.0 + sum_tables wa z (p + 4) n) (wb a.0 + sum_tables wb z (p + 4) n)
    (wc a.0 + sum_tables wc z (p + 4) n)) e.1
    (joined left c.0.1 r.0.1 (wa a.0) (wb a.0) (wc a.0) (sum_tables wa z (p + 4) n) (sum_tables wb z (p + 4) n) (sum_tables wc z (p + 4) n)
    (s a.0 left c.0 c.1) there))

-- tables that state nothing of a kind state nothing of it together
pub sum_none : (z : List ℕ) (n p : ℕ) → sum_tables (λ u. 0) z p n ≡ 0
unfolding sum_tables
sum_none z zero p = refl
sum_none z (suc n) p = go (table_from z p) (sum_none z n (p + 4))
  where
    go : {E : Type 0} (r : Result TableView E) → sum_tables (λ u. 0) z (p + 4) n ≡ 0
        → or_zero (λ u. 0) r + sum_tables (λ u. 0) z (p + 4) n ≡ 0
    go (Ok u) h = omega (arith, h)
    go (Err e) h = omega (arith, h)

-- pairs that were read take their number and the lengths of their texts from the budget
pub pairs_spent : (t : TableView) (k : ℕ) (left : Budget) (x : List (List ℕ × List ℕ) × Budget) → pairs_read t k left ≡ Ok x
    → Spent left x.1 0 (sum_in pair_text_in t k) (count_in t k)
unfolding pairs_read
pairs_spent t k left x h =
    let v = bind_ok (vector_at t k) _ x h in
    let l = bind_ok (less_pairs v.0.len left) _ x v.2 in
    let sum : sum_in pair_text_in t k ≡ sum_tables pair_text_in v.0.bytes v.0.at v.0.len =
    ap (or_zero (λ es. sum_tables pair_text_in es.bytes es.at es.len)) v.1 in
    let many : count_in t k ≡ v.0.len = ap (or_zero (λ es. es.len)) v.1 in
    let first = less_pairs_spent v.0.len left l.0 l.1 in
    let rest = each_spent pair_read (λ u. 0) pair_text_in (λ u. 0) pair_spent v.0.bytes v.0.len v.0.at l.0 x l.2 in
    let none = sum_none v.0.bytes v.0.len v.0.at in
    record {
      fields = omega (arith, first.fields, rest.fields, none);
      text = omega (arith, first.text, rest.text, sum);
      pairs = omega (arith, first.pairs, rest.pairs, none, many);
    }

-- a type that was read takes the length of its time zone, if it has one, from the budget
pub type_spent : (t : TableView) (left : Budget) (x : DataType × Budget) → type_read t left ≡ Ok x
    → Spent left x.1 0 (timezone_len_at t) 0
unfolding type_read
type_spent t left x h =
    let a = bind_ok (type_at t) _ x h in
    let l = bind_ok (less_text (kind_text a.0) left) _ x a.2 in
    let e = left_parts a.0 x.0 l.0 x.1 l.2 in
    let size : timezone_len_at t ≡ kind_text a.0 = timezone_len t a.0 (type_stated t a.0 a.1) in
    subst (λ m. Spent left m 0 (timezone_len_at t) 0) e.1 (rw size (less_text_spent (kind_text a.0) left l.0 l.1))

-- fields that were read take their number from the budget, and what each of them takes
pub fields_spent : (g : TableView → Reading Field) (wa wb wc : TableView → ℕ)
    → ((t : TableView) (left : Budget) (x : Field × Budget) → g t left ≡ Ok x → Spent left x.1 (wa t) (wb t) (wc t))
    → (t : TableView) (k : ℕ) (left : Budget) (x : List Field × Budget) → fields_read g t k left ≡ Ok x
    → Spent left x.1 (count_in t k + sum_in wa t k) (sum_in wb t k) (sum_in wc t k)
unfolding fields_read
fields_spent g wa wb wc s t k left x h =
    let v = bind_ok (vector_at t k) _ x h in
    let l = bind_ok (less_fields v.0.len left) _ x v.2 in
    let sum_a : sum_in wa t k ≡ sum_tables wa v.0.bytes v.0.at v.0.len = ap (or_zero (λ es. sum_tables wa es.bytes es.at es.len)) v.1 in
    let sum_b : sum_in wb t k ≡ sum_tables wb v.0.bytes v.0.at v.0.len = ap (or_zero (λ es. sum_tables wb es.bytes es.at es.len)) v.1 in
    let sum_c : sum_in wc t k ≡ sum_tables wc v.0.bytes v.0.at v.0.len = ap (or_zero (λ es. sum_tables wc es.bytes es.at es.len)) v.1 in
    let many : count_in t k ≡ v.0.len = ap (or_zero (λ es. es.len)) v.1 in
    let first = less_fields_spent v.0.len left l.0 l.1 in
    let rest = each_spent g wa wb wc s v.0.bytes v.0.len v.0.at l.0 x l.2 in
    record {
      fields = omega (arith, first.fields, rest.fields, many, sum_a);
      text = omega (arith, first.text, rest.text, sum_b);
      pairs = omega (arith, first.pairs, rest.pairs, sum_c);
    }

-- a Field table's children, and its pairs
abbrev pub children_in : TableView → ℕ
children_in u = count_in u 5

abbrev pub pairs_in : TableView → ℕ
pairs_in u = count_in u 6

-- a field that was read takes from the budget what its table states and those below it state
pub field_spent : (d : ℕ) (t : TableView) (left : Budget) (x : Field × Budget) → field_read d t left ≡ Ok x
    → Spent left x.1 (tree_sum children_in d t) (tree_sum own_text d t) (tree_sum pairs_in d t)
unfolding field_read tree_sum
field_spent zero t left x h = absurd (cc)
field_spent (suc d) t left x h =
    let name = bind_ok (text_read t 0 left) _ x h in
    let nullable = bind_ok (flag_at t 1) _ x name.2 in
    let κ = bind_ok (type_read t name.0.1) _ x nullable.2 in
    let o = bind_ok (dictionary_at t) _ x κ.2 in
    let ps = bind_ok (pairs_read t 6 κ.0.1) _ x o.2 in
    let cs = bind_ok (fields_read (field_read d) t 5 ps.0.1) _ x ps.2 in
    let e = left_parts _ x.0 cs.0.1 x.1 cs.2 in
    let a = text_spent t 0 left name.0 name.1 in
    let b = type_spent t name.0.1 κ.0 κ.1 in
    let c = pairs_spent t 6 κ.0.1 ps.0 ps.1 in
    let f = fields_spent (field_read d) (tree_sum children_in d) (tree_sum own_text d) (tree_sum pairs_in d) (field_spent d) t 5 ps.0.1 cs.0
    cs.1 in
    subst (λ m. Spent left m (children_in t + sum_in (tree_sum children_in d) t 5) (own_text t + sum_in (tree_sum own_text d) t 5)
    (pairs_in t + sum_in (tree_sum pairs_in d) t 5)) e.1
    (record {
      fields = omega (arith, a.fields, b.fields, c.fields, f.fields);
      text = omega (arith, a.text, b.text, c.text, f.text);
      pairs = omega (arith, a.pairs, b.pairs, c.pairs, f.pairs);
    })

-- ---- by what was read

text_taken : (t : TableView) (k : ℕ) (left after : Budget) (s : List ℕ) → text_read t k left ≡ Ok (s, after)
    → Spent left after 0 (length s) 0
unfolding text_read
text_taken t k left after s h =
    let a = bind_ok (text_at t k) _ _ h in
    let l = bind_ok (less_text (length a.0) left) _ _ a.2 in
    let e = left_parts a.0 s l.0 after l.2 in
    subst (λ z. Spent left after 0 (length z) 0) e.0
    (subst (λ m. Spent left m 0 (length a.0) 0) e.1 (less_text_spent (length a.0) left l.0 l.1))

pair_taken : (t : TableView) (left after : Budget) (p : List ℕ × List ℕ) → pair_read t left ≡ Ok (p, after)
    → Spent left after 0 (length p.0 + length p.1) 0
unfolding pair_read
pair_taken t left after p h =
    let k = bind_ok (text_read t 0 left) _ _ h in
    let v = bind_ok (text_read t 1 k.0.1) _ _ k.2 in
    let e = left_parts (k.0.0, v.0.0) p v.0.1 after v.2 in
    subst (λ q. Spent left after 0 (length q.0 + length q.1) 0) e.0
    (subst (λ m. Spent left m 0 (length k.0.0 + length v.0.0) 0) e.1
    (joined left k.0.1 v.0.1 0 (length k.0.0) 0 0 (length v.0.0) 0 (text_taken t 0 left k.0.1 k.0.0 k.1)
    (text_taken t 1 k.0.1 v.0.1 v.0.0 v.1)))

each_taken : (b : List ℕ) (n p : ℕ) (left after : Budget) (ps : List (List ℕ × List ℕ)) → each pair_read b p n left ≡ Ok (ps, after)
    → Spent left after 0 (pair_text ps) 0 × (length ps ≡ n)
unfolding each
each_taken b zero p left after ps h =
    let e = left_parts [] ps left after h in
    subst (λ qs. Spent left after 0 (pair_text qs) 0 × (length qs ≡ 0)) e.0
    (subst (λ m. Spent left m 0 0 0) e.1 (record { fields = omega arith; text = omega arith; pairs = omega arith }), refl)
each_taken b (suc n) p left after ps h =
    let a = bind_ok (map_fault (table_from b p)) _ _ h in
    let c = bind_ok (pair_read a.0 left) _ _ a.2 in
    let r = bind_ok (each pair_read b (p + 4) n c.0.1) _ _ c.2 in
    let e = left_parts (c.0.0 ∷ r.0.0) ps r.0.1 after r.2 in
    let first = pair_taken a.0 left c.0.1 c.0.0 c.1 in
    let rest = each_taken b n (p + 4) c.0.1 r.0.1 r.0.0 r.1 in
    let count = rest.1 in
    subst (λ qs. Spent left after 0 (pair_text qs) 0 × (length qs ≡ suc n)) e.0 (
      subst (λ m. Spent left m 0 (pair_text (c.0.0 ∷ r.0.0)) 0) e.1
          (joined left c.0.1 r.0.1 0 (length c.0.0.0 + length c.0.0.1) 0 0 (pair_text r.0.0) 0 first rest.0),
      omega (arith, count),
    )

-- pairs that were read take from the budget their bytes of text, and as many pairs as they are
pub pairs_taken : (t : TableView) (k : ℕ) (left after : Budget) (ps : List (List ℕ × List ℕ)) → pairs_read t k left ≡ Ok (ps, after)
    → Spent left after 0 (pair_text ps) (length ps)
unfolding pairs_read
pairs_taken t k left after ps h =
    let v = bind_ok (vector_at t k) _ _ h in
    let l = bind_ok (less_pairs v.0.len left) _ _ v.2 in
    let rest = each_taken v.0.bytes v.0.len v.0.at l.0 after ps l.2 in
    let counted = less_pairs_spent v.0.len left l.0 l.1 in
    let few = rest.1 in
    record {
      fields = omega (arith, counted.fields, rest.0.fields);
      text = omega (arith, counted.text, rest.0.text);
      pairs = omega (arith, counted.pairs, rest.0.pairs, few);
    }
