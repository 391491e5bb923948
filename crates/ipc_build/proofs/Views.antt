-- What places and bytes a slot asks for, by its variant, and by how far a loop over slots has come.
use Rattle.std.proofs.Common.{◌≡◌, ℕ, ◌+◌, List, [], ◌∷◌, length, refl, ap, sym, ◌∙◌, arith}
use Rattle.ipc_build.specs.declared.tree.FlatTree.{FlatTree}
use Rattle.ipc_build.specs.declared.tree.Slot.{Slot}
use Rattle.ipc_build.specs.declared.tree.Slot.TheVariants as v
use Rattle.ipc_build.specs.Trees.{Tree, Node, none, field, fields_of, tables_of, slot_step, tree_step, node, view, fields_view, tables_view}
use Rattle.ipc_build.specs.Trees as k
use Rattle.ipc_build.specs.Layout.{members, targets_end, target_end, prefix_place, inline_end, weight, little, inline_bytes, targets}
use Rattle.ipc_build.specs.Layout.{target_bytes}
use Rattle.ipc_build.proofs.Nodes.{tables_is, pairs_is}
use Rattle.ipc_build.proofs.Upward.{ends_up}
use Rattle.std.proofs.Common.{◌<◌, ◌≤◌, ◌*◌, drop, get_or, suc, add-one, drop-cons, zero, ◌++◌}
use Rattle.std.specs.Prelude.{ℤ}

-- a table has as many fields as slots
pub members_fields : (xs : List (ℕ × Slot)) → members (fields_view xs) ≡ length xs
unfolding members
members_fields [] = refl
members_fields (x ∷ xs) = let e = members_fields xs in omega (arith, e)

-- a vector of tables has as many elements as tables
pub members_tables : (xs : List FlatTree) → members (tables_view xs) ≡ length xs
unfolding members
members_tables [] = refl
members_tables (x ∷ xs) = let e = members_tables xs in omega (arith, e)

-- where a slot's vector of tables ends: behind its count, 4 bytes for each offset, and the tables
pub tables_need : (s : Slot) (ts us : List FlatTree) (p : ℕ) → s ≡ v.Tables ts → us ≡ ts
    → target_end (node s).0 (node s).1 (targets_end (node s).1) p ≡ targets_end (tables_view us) (p + 4 + 4 * length us)
tables_need s ts us p e f =
    let i : node s ≡ (k.tables, tables_view us) =
    ap node e ∙ (tables_is ts ∙ ap (λ (xs : List FlatTree). (k.tables, tables_view xs)) (sym f)) in
    ap (λ (x : Node). target_end x.0 x.1 (targets_end x.1) p) i
    ∙ ap (λ (n : ℕ). targets_end (tables_view us) (p + 4 + 4 * n)) (members_tables us)

-- a list from i on is element i and the list behind it
pub front : {X : Type 0} (xs : List X) (i : ℕ) (x : X) → x ≡ get_or xs i x → i < length xs → drop i xs ≡ x ∷ drop (i + 1) xs
front xs i x e h = rw (add-one) (drop-cons xs i x h ∙ ap (λ y. y ∷ drop (suc i) xs) (sym e))

-- what slot i points to ends no later than what all slots from i on point to
pub fields_bound : (xs : List (ℕ × Slot)) (i : ℕ) (x : ℕ × Slot) (p n : ℕ) → x ≡ get_or xs i x → i < length xs
    → targets_end (fields_view (drop i xs)) p ≡ n → target_end (node x.1).0 (node x.1).1 (targets_end (node x.1).1) p ≤ n
unfolding targets_end
fields_bound xs i x p n e h f =
    let u = (ends_up (fields_view (drop (i + 1) xs)) (target_end (node x.1).0 (node x.1).1 (targets_end (node x.1).1) p)).more in
    let g : targets_end (fields_view (drop i xs)) p
    ≡ targets_end (fields_view (drop (i + 1) xs)) (target_end (node x.1).0 (node x.1).1 (targets_end (node x.1).1) p) =
    ap (λ (ys : List (ℕ × Slot)). targets_end (fields_view ys) p) (front xs i x e h) in
    omega (arith, u, g, f)

-- table i ends with all below it no later than all tables from i on
pub tables_bound : (xs : List FlatTree) (i : ℕ) (x : FlatTree) (p n : ℕ) → x ≡ get_or xs i x → i < length xs
    → targets_end (tables_view (drop i xs)) p ≡ n → targets_end (view x) (inline_end (view x) p) ≤ n
unfolding targets_end
tables_bound xs i x p n e h f =
    let u = (ends_up (tables_view (drop (i + 1) xs)) (targets_end (view x) (inline_end (view x) p))).more in
    let g : targets_end (tables_view (drop i xs)) p
    ≡ targets_end (tables_view (drop (i + 1) xs)) (targets_end (view x) (inline_end (view x) p)) =
    ap (λ (ys : List FlatTree). targets_end (tables_view ys) p) (front xs i x e h) in
    omega (arith, u, g, f)

-- the weight of the tree below a slot is less than that of all the slots, by 3 or more
pub fields_weight : (xs : List (ℕ × Slot)) (i : ℕ) (d : ℕ × Slot) → i < length xs
    → weight (node (get_or xs i d).1).1 + 3 ≤ weight (fields_view xs)
unfolding weight
fields_weight [] i d h = absurd (omega arith)
fields_weight (x ∷ xs) zero d h = omega arith
fields_weight (x ∷ xs) (suc i) d h = let e = fields_weight xs i d (omega arith) in omega (arith, e)

-- the weight of a table is less than that of the vector in which it is, by 3 or more
pub tables_weight : (xs : List FlatTree) (i : ℕ) (d : FlatTree) → i < length xs
    → weight (view (get_or xs i d)) + 3 ≤ weight (tables_view xs)
unfolding weight
tables_weight [] i d h = absurd (omega arith)
tables_weight (x ∷ xs) zero d h = omega arith
tables_weight (x ∷ xs) (suc i) d h = let e = tables_weight xs i d (omega arith) in omega (arith, e)

-- the tree below a slot that holds a vector of tables has the weight of those tables
pub tables_below : (s : Slot) (ts us : List FlatTree) → s ≡ v.Tables ts → us ≡ ts → weight (node s).1 ≡ weight (tables_view us)
tables_below s ts us e f = ap (λ (x : Slot). weight (node x).1) e
    ∙ (ap (λ (x : Node). weight x.1) (tables_is ts) ∙ ap (λ (xs : List FlatTree). weight (tables_view xs)) (sym f))

-- where a slot's vector of structs ends: behind its count, which ends at a multiple of 8, and 16 bytes for each
pub pairs_need : (s : Slot) (xs ys : List (ℤ × ℤ)) (p : ℕ) → s ≡ v.Pairs xs → ys ≡ xs
    → target_end (node s).0 (node s).1 (targets_end (node s).1) p ≡ prefix_place p + 4 + 16 * length ys
pairs_need s xs ys p e f =
    let i : node s ≡ (k.pairs xs, none) = ap node e ∙ pairs_is xs in
    ap (λ (x : Node). target_end x.0 x.1 (targets_end x.1) p) i ∙ ap (λ (n : ℕ). prefix_place p + 4 + 16 * n) (ap length (sym f))

-- where a vector's tables end below n, they begin below it
pub vector_up : (xs : List FlatTree) (p n : ℕ) → targets_end (tables_view xs) p < n → p < n
vector_up xs p n h = let u = (ends_up (tables_view xs) p).more in omega (arith, u, h)

-- "Strings and Vectors": the bytes of a slot that holds a vector of tables: the count, the offsets, the tables
pub tables_bytes : (s : Slot) (ts us : List FlatTree) (p : ℕ) → s ≡ v.Tables ts → us ≡ ts
    → target_bytes (node s).0 (node s).1 (targets (node s).1) p
    ≡ little 4 (length us) ++ (inline_bytes 4 (tables_view us) (p + 4) (p + 4 + 4 * length us)
    ++ targets (tables_view us) (p + 4 + 4 * length us))
tables_bytes s ts us p e f =
    let i : node s ≡ (k.tables, tables_view us) =
    ap node e ∙ (tables_is ts ∙ ap (λ (xs : List FlatTree). (k.tables, tables_view xs)) (sym f)) in
    ap (λ (x : Node). target_bytes x.0 x.1 (targets x.1) p) i
    ∙ ap (λ (n : ℕ). little 4 n ++ (inline_bytes 4 (tables_view us) (p + 4) (p + 4 + 4 * n)
    ++ targets (tables_view us) (p + 4 + 4 * n))) (members_tables us)

-- an element that is there is the same for every default
pub same_or : {X : Type 0} (xs : List X) (i : ℕ) (d e : X) → i < length xs → get_or xs i d ≡ get_or xs i e
same_or [] i d e h = absurd (omega arith)
same_or (x ∷ xs) zero d e h = refl
same_or (x ∷ xs) (suc i) d e h = same_or xs i d e (omega arith)
