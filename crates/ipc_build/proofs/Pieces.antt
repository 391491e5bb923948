-- What is written of a table and of a vector, piece by piece, and how its fields ascend.
use Rattle.std.proofs.Common.{◌≡◌, ℕ, zero, suc, ◌+◌, ◌-◌, ◌*◌, ◌≤◌, ◌<◌, List, [], ◌∷◌, ◌++◌, length, take, drop, get_or, refl, ap, sym}
use Rattle.std.proofs.Common.{◌∙◌, subst, append_assoc, arith}
use Rattle.std.proofs.lemmas.List.{append-nil, length-append, length-replicate, take_at}
use Rattle.std.proofs.Math.ListN.{drop_of_length-le}
use Rattle.std.specs.Prelude.{ℤ}
use Rattle.std.specs.Int.{w64, cast_unsigned}
use Rattle.ipc_build.specs.declared.tree.Slot.{Slot}
use Rattle.ipc_build.specs.declared.tree.Slot.TheVariants as v
use Rattle.ipc_build.specs.declared.tree.FlatTree.{FlatTree}
use Rattle.ipc_build.specs.Trees.{Tree, Node, none, field, node, view, fields_view, tables_view, slot_step, tree_step}
use Rattle.ipc_build.specs.Trees as k
use Rattle.ipc_build.specs.Layout.{little, padding, entry_count, members, inline_bytes, vtable_entries, targets_end, inline_end}
use Rattle.ipc_build.specs.Layout.{table_place}
use Rattle.ipc_build.specs.Layout.{head_bytes, own_bytes, target_bytes, targets, struct_bytes, prefix_place, as_vector, buffer}
use Rattle.ipc_build.specs.Ascends.{fields, elements, Below, Writable}
use Rattle.ipc_build.proofs.Lengths.{length_head, entry_count_small, members_below}
use Rattle.ipc_scalar.proofs.Places.{length_low_bytes}
use Rattle.ipc_build.proofs.Nodes.{tables_is, pairs_is}
use Rattle.ipc_build.proofs.Views.{front, members_fields}
use Rattle.ipc_build.proofs.Steps.{more}

fields_below : (xs : List (ℕ × Slot)) (i n : ℕ) (d : ℕ × Slot) → i < length xs → Writable (fields n) (fields_view xs)
    → Below (node (get_or xs i d).1).0 (λ s. Writable s (node (get_or xs i d).1).1)
unfolding Writable
fields_below [] i n d h p = absurd (omega arith)
fields_below (x ∷ xs) zero n d h p = p.3
fields_below (x ∷ xs) (suc i) n d h p = fields_below xs i (x.0 + 1) d (omega arith) p.4

-- what may be written of a table may be written of what each field points to
pub field_below : (xs : List (ℕ × Slot)) (i : ℕ) (x : ℕ × Slot) → x ≡ get_or xs i x → i < length xs → Writable (fields 0) (fields_view xs)
    → Below (node x.1).0 (λ s. Writable s (node x.1).1)
field_below xs i x e h p = subst (λ (y : ℕ × Slot). Below (node y.1).0 (λ s. Writable s (node y.1).1)) (sym e) (fields_below xs i 0 x h p)

tables_each : (xs : List FlatTree) (i : ℕ) (d : FlatTree) → i < length xs → Writable elements (tables_view xs)
    → Writable (fields 0) (view (get_or xs i d))
unfolding Writable
tables_each [] i d h p = absurd (omega arith)
tables_each (x ∷ xs) zero d h p = p.1
tables_each (x ∷ xs) (suc i) d h p = tables_each xs i d (omega arith) p.2

-- what may be written of a vector of tables may be written of each table
pub table_each : (xs : List FlatTree) (i : ℕ) (x : FlatTree) → x ≡ get_or xs i x → i < length xs → Writable elements (tables_view xs)
    → Writable (fields 0) (view x)
table_each xs i x e h p = subst (λ (y : FlatTree). Writable (fields 0) (view y)) (sym e) (tables_each xs i x h p)

-- the tables that a slot holds may be written where the slot's tree may
pub elements_below : (s : Slot) (ts us : List FlatTree) → s ≡ v.Tables ts → us ≡ ts → Below (node s).0 (λ q. Writable q (node s).1)
    → Writable elements (tables_view us)
elements_below s ts us e f h =
    let i : node s ≡ (k.tables, tables_view us) =
    ap node e ∙ (tables_is ts ∙ ap (λ (xs : List FlatTree). (k.tables, tables_view xs)) (sym f)) in
    subst (λ (x : Node). Below x.0 (λ q. Writable q x.1)) i h

-- a table that may be written has at most 16 fields, and 16 entries in its vtable
pub few : (xs : List (ℕ × Slot)) → Writable (fields 0) (fields_view xs) → (length xs ≤ 16) × (entry_count 0 (fields_view xs) ≤ 16)
few xs p =
    let m = members_below (fields_view xs) 0 p in
    let t = entry_count_small (fields_view xs) 0 (omega arith) p in
    let l = members_fields xs in
    (omega (arith, m, t, l), t)

-- "Structs": the bytes of a slot that holds a vector of structs: padding, the count, the structs
pub pairs_bytes : (s : Slot) (xs ys : List (ℤ × ℤ)) (p : ℕ) → s ≡ v.Pairs xs → ys ≡ xs
    → target_bytes (node s).0 (node s).1 (targets (node s).1) p ≡ padding (prefix_place p - p) ++ (little 4 (length ys) ++ struct_bytes ys)
pairs_bytes s xs ys p e f =
    let i : node s ≡ (k.pairs ys, none) = ap node e ∙ (pairs_is xs ∙ ap (λ (zs : List (ℤ × ℤ)). (k.pairs zs, none)) (sym f)) in
    ap (λ (x : Node). target_bytes x.0 x.1 (targets x.1) p) i

module _ (xs : List (ℕ × Slot)) (i : ℕ) (x : ℕ × Slot) (e : x ≡ get_or xs i x) (h : i < length xs) where
  -- where fields from i on may be written from number n on, field i has a number from n on and below 16, and the others follow it
  pub ordered : (n : ℕ) → Writable (fields n) (fields_view (drop i xs))
      → (n ≤ x.0) × (x.0 < 16) × Writable (fields (x.0 + 1)) (fields_view (drop (i + 1) xs))
  unfolding Writable
  ordered n p =
      let q : Writable (fields n) (fields_view (x ∷ drop (i + 1) xs)) =
      subst (λ (ys : List (ℕ × Slot)). Writable (fields n) (fields_view ys)) (front xs i x e h) p in
      (q.0, q.1, q.4)

  -- a loop over a vtable's entries has written one more, when it wrote the zeros of the absent fields before it and then its place
  pub entries_more : (out padded now base : List ℕ) (n d : ℕ) → padded ≡ out ++ padding (2 * (x.0 - n)) → now ≡ padded ++ little 2 d
      → out ++ vtable_entries n d (fields_view (drop i xs)) ≡ base → now ++ vtable_entries (x.0 + 1) (d + 8) (fields_view (drop (i + 1) xs))
      ≡ base
  unfolding vtable_entries
  entries_more out padded now base n d f g inv =
      let rest = vtable_entries (x.0 + 1) (d + 8) (fields_view (drop (i + 1) xs)) in
      let step : vtable_entries n d (fields_view (drop i xs)) ≡ padding (2 * (x.0 - n)) ++ (little 2 d ++ rest) =
      ap (λ (ys : List (ℕ × Slot)). vtable_entries n d (fields_view ys)) (front xs i x e h) in
      more padded now (little 2 d) rest (little 2 d ++ rest) base g refl
      (more out padded (padding (2 * (x.0 - n))) (little 2 d ++ rest) (vtable_entries n d (fields_view (drop i xs))) base f step inv)

-- when no field is left, all entries are written
pub entries_done : (xs : List (ℕ × Slot)) (i n d : ℕ) (out base : List ℕ) → length xs ≤ i
    → out ++ vtable_entries n d (fields_view (drop i xs)) ≡ base → out ≡ base
unfolding vtable_entries
entries_done xs i n d out base h inv = sym (append-nil out)
    ∙ (ap (λ (ys : List (ℕ × Slot)). out ++ vtable_entries n d (fields_view ys)) (sym (drop_of_length-le xs h)) ∙ inv)

module _ (xs : List FlatTree) (i : ℕ) (x : FlatTree) (e : x ≡ get_or xs i x) (h : i < length xs) where
  -- a loop over a vector's offsets has written one more, when it wrote the distance to the table
  pub offsets_more : (out now base : List ℕ) (a p q y : ℕ) → q ≡ targets_end (view x) (inline_end (view x) p)
      → y ≡ table_place (view x) p - a → now ≡ out ++ little 4 y → out ++ inline_bytes 4 (tables_view (drop i xs)) a p ≡ base
      → now ++ inline_bytes 4 (tables_view (drop (i + 1) xs)) (a + 4) q ≡ base
  unfolding inline_bytes
  offsets_more out now base a p q y f g w inv =
      let rest = tables_view (drop (i + 1) xs) in
      let step : inline_bytes 4 (tables_view (drop i xs)) a p
      ≡ little 4 (table_place (view x) p - a) ++ inline_bytes 4 rest (a + 4) (targets_end (view x) (inline_end (view x) p)) =
      ap (λ (ys : List FlatTree). inline_bytes 4 (tables_view ys) a p) (front xs i x e h) in
      more out now (little 4 (table_place (view x) p - a)) (inline_bytes 4 rest (a + 4) q)
      (inline_bytes 4 (tables_view (drop i xs)) a p) base (w ∙ ap (λ (n : ℕ). out ++ little 4 n) g)
      (step ∙ ap (λ (n : ℕ). little 4 (table_place (view x) p - a) ++ inline_bytes 4 rest (a + 4) n) (sym f)) inv

-- when no table is left, all offsets are written
pub offsets_done : (xs : List FlatTree) (i a p : ℕ) (out base : List ℕ) → length xs ≤ i
    → out ++ inline_bytes 4 (tables_view (drop i xs)) a p ≡ base → out ≡ base
unfolding inline_bytes
offsets_done xs i a p out base h inv = sym (append-nil out)
    ∙ (ap (λ (ys : List FlatTree). out ++ inline_bytes 4 (tables_view ys) a p) (sym (drop_of_length-le xs h)) ∙ inv)

module _ (xs : List (ℤ × ℤ)) (i : ℕ) (x : ℤ × ℤ) (e : x ≡ get_or xs i x) (h : i < length xs) where
  -- a loop over structs has written one more, when it wrote both its numbers
  pub pairs_more : (out now base : List ℕ) → now ≡ (out ++ little 8 (cast_unsigned w64 x.0)) ++ little 8 (cast_unsigned w64 x.1)
      → out ++ struct_bytes (drop i xs) ≡ base → now ++ struct_bytes (drop (i + 1) xs) ≡ base
  unfolding struct_bytes
  pairs_more out now base f inv =
      let rest = struct_bytes (drop (i + 1) xs) in
      let one = little 8 (cast_unsigned w64 x.0) in
      let two = little 8 (cast_unsigned w64 x.1) in
      let step : struct_bytes (drop i xs) ≡ one ++ (two ++ rest) = ap (λ (ys : List (ℤ × ℤ)). struct_bytes ys) (front xs i x e h) in
      more out now (one ++ two) rest (struct_bytes (drop i xs)) base (f ∙ append_assoc out one two)
      (step ∙ sym (append_assoc one two rest)) inv

-- when none is left, all structs are written
pub pairs_done : (xs : List (ℤ × ℤ)) (i : ℕ) (out base : List ℕ) → length xs ≤ i → out ++ struct_bytes (drop i xs) ≡ base → out ≡ base
unfolding struct_bytes
pairs_done xs i out base h inv = sym (append-nil out)
    ∙ (ap (λ (ys : List (ℤ × ℤ)). out ++ struct_bytes ys) (sym (drop_of_length-le xs h)) ∙ inv)

-- one piece behind another
joined : (a b c x y : List ℕ) → b ≡ a ++ x → c ≡ b ++ y → c ≡ a ++ (x ++ y)
joined a b c x y e f = f ∙ (ap (λ (l : List ℕ). l ++ y) e ∙ append_assoc a x y)

-- "Tables": a vtable's size, its table's size, the entries, padding and the distance to the vtable are a table's head
pub head_joined : (f : Tree) (p size table : ℕ) (a b c d g i : List ℕ) → size ≡ 4 + 2 * entry_count 0 f → table ≡ table_place f p
    → (places : ℕ) → places ≡ 8 * members f →
    b ≡ a ++ little 2 size → c ≡ b ++ little 2 (4 + places) → d ≡ c ++ vtable_entries 0 4 f → g ≡ d ++ padding (table - (p + size))
    → i ≡ g ++ little 4 (table - p) → i ≡ a ++ head_bytes f p
unfolding head_bytes
head_joined f p size table a b c d g i es et l el u w x y z =
    joined a b i (little 2 (4 + 2 * entry_count 0 f)) _ (u ∙ ap (λ (n : ℕ). a ++ little 2 n) es)
    (joined b c i (little 2 (4 + 8 * members f)) _ (w ∙ ap (λ (n : ℕ). b ++ little 2 (4 + n)) el)
    (joined c d i (vtable_entries 0 4 f) _ x
    (joined d g i (padding (table_place f p - (p + 4 + 2 * entry_count 0 f))) _ (y ∙ ap (λ (n : ℕ). d ++ padding n) (omega (arith, es, et)))
    (z ∙ ap (λ (n : ℕ). g ++ little 4 (n - p)) et))))

-- where the places of a table's fields end
pub places_end : (f : Tree) (p n : ℕ) (a b c : List ℕ) → Writable (fields 0) f → p ≡ length a → n ≡ 8 * members f → b ≡ a ++ head_bytes f p
    → c ≡ b ++ padding n → length c ≡ inline_end f p
places_end f p n a b c h pe ne e g =
    let l = length-append a (head_bytes f p) in
    let m = length_head f p h in
    let k = length-append b (padding n) in
    let z = length-replicate {A = ℕ} n 0 in
    let lb = ap length e in
    let lc = ap length g in
    omega (arith, l, m, k, z, lb, lc, pe, ne)

-- where the places of a vector's offsets end
pub vector_places : (p n m : ℕ) (a b c : List ℕ) → p ≡ length a → m ≡ 4 * n → b ≡ a ++ little 4 n → c ≡ b ++ padding m
    → length c ≡ p + 4 + 4 * n
vector_places p n m a b c pe me e g =
    let l = length-append a (little 4 n) in
    let t = length_low_bytes 0 4 n in
    let k = length-append b (padding m) in
    let z = length-replicate {A = ℕ} m 0 in
    let lb = ap length e in
    let lc = ap length g in
    omega (arith, l, t, k, z, lb, lc, pe, me)

-- a table, from its head, the places of its fields, and what is put into them with all behind
pub table_joined : (f : Tree) (p at n : ℕ) (a b c d : List ℕ) → Writable (fields 0) f → p ≡ length a → at ≡ length b → n ≡ 8 * members f
    → b ≡ a ++ head_bytes f p → c ≡ b ++ padding n → d ≡ take at c ++ (inline_bytes 8 f at (length c) ++ targets f (length c))
    → d ≡ a ++ (own_bytes f p ++ targets f (inline_end f p))
unfolding own_bytes
table_joined f p at n a b c d h pe ae ne e g i =
    let front : take at c ≡ a ++ head_bytes f p = rw g (take_at b (padding n) at (sym ae)) ∙ e in
    let lb : length b ≡ table_place f p + 4 = let l = length-append a (head_bytes f p) in let m =
    length_head f p h in ap length e ∙ omega (arith, l, m, pe) in
    let here : at ≡ table_place f p + 4 = ae ∙ lb in
    let end = places_end f p n a b c h pe ne e g in
    i ∙ (ap (λ (l : List ℕ). l ++ (inline_bytes 8 f at (length c) ++ targets f (length c))) front
    ∙ (ap (λ (m : ℕ). (a ++ head_bytes f p) ++ (inline_bytes 8 f m (length c) ++ targets f (length c))) here
    ∙ (ap (λ (m : ℕ). (a ++ head_bytes f p) ++ (inline_bytes 8 f (table_place f p + 4) m ++ targets f m)) end
    ∙ (append_assoc a (head_bytes f p) _ ∙ ap (λ (l : List ℕ). a ++ l)
    (sym (append_assoc (head_bytes f p) (inline_bytes 8 f (table_place f p + 4) (inline_end f p)) (targets f (inline_end f p))))))))

-- a vector of tables, from its count, the places of its offsets, and what is put into them with all behind
pub vector_joined : (f : Tree) (p n m : ℕ) (a b c d : List ℕ) → p ≡ length a → m ≡ 4 * n → b ≡ a ++ little 4 n → c ≡ b ++ padding m
    → d ≡ take (p + 4) c ++ (inline_bytes 4 f (p + 4) (length c) ++ targets f (length c))
    → d ≡ a ++ (little 4 n ++ (inline_bytes 4 f (p + 4) (p + 4 + 4 * n) ++ targets f (p + 4 + 4 * n)))
vector_joined f p n m a b c d pe me e g i =
    let lb : length b ≡ p + 4 = let l = length-append a (little 4 n) in let t =
    length_low_bytes 0 4 n in ap length e ∙ omega (arith, l, t, pe) in
    let front : take (p + 4) c ≡ a ++ little 4 n = rw g (take_at b (padding m) (p + 4) lb) ∙ e in
    let end = vector_places p n m a b c pe me e g in
    i ∙ (ap (λ (l : List ℕ). l ++ (inline_bytes 4 f (p + 4) (length c) ++ targets f (length c))) front
    ∙ (ap (λ (k : ℕ). (a ++ little 4 n) ++ (inline_bytes 4 f (p + 4) k ++ targets f k)) end
    ∙ append_assoc a (little 4 n) _))

-- the layout of a whole buffer ends where that of its root table does
pub vector_ends : (f : Tree) → targets_end (as_vector f) 4 ≡ targets_end f (inline_end f 4)
unfolding targets_end
vector_ends f = refl

-- the root offset and the root table with all below it are the whole buffer
pub buffer_joined : (f : Tree) (t : ℕ) (a b c : List ℕ) → t ≡ table_place f 4 → b ≡ a ++ little 4 t
    → c ≡ b ++ (own_bytes f 4 ++ targets f (inline_end f 4)) → c ≡ a ++ buffer f
unfolding inline_bytes targets
buffer_joined f t a b c e g h =
    joined a b c (little 4 (table_place f 4 - 0)) (own_bytes f 4 ++ targets f (inline_end f 4))
    (g ∙ ap (λ (n : ℕ). a ++ little 4 n) (omega (arith, e))) h
    ∙ (ap (λ (l : List ℕ). a ++ (little 4 (table_place f 4 - 0) ++ l)) (sym (append-nil (own_bytes f 4 ++ targets f (inline_end f 4)))))
