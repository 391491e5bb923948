-- Fields as shapes, and columns side by side.
use Rattle.std.proofs.Common.{◌≡◌, ◌∙◌, refl, ap, ℕ, ◌+◌, ◌<◌, ◌≤◌, List, [], ◌∷◌, ◌++◌, length, drop, get_or, take, cond, true, false}
use Rattle.std.proofs.Common.{nat_le, add-one, drop-cons, arith, ◌*◌, lit≤}
use Rattle.std.proofs.lemmas.List.{drop_all}
use Rattle.ipc_model.specs.declared.schema.Field.{Field, out-Field, fold_out-Field}
use Rattle.ipc_meta.specs.declared.head.BatchHead.{BatchHead}
use Rattle.ipc_model.specs.declared.layout.Layout.{Layout}
use Rattle.ipc_model.specs.declared.layout.Layout.TheVariants as l
use Rattle.ipc_column.specs.declared.ranges.ColumnRanges.{ColumnRanges}
use Rattle.ipc_model.specs.Layouts.{own_buffers}
use Rattle.ipc_column.specs.Columns.{Columns, none, column, body_range}
use Rattle.ipc_column.specs.Dictionaries.{Dictionaries}
use Rattle.ipc_column.specs.Views.{part_columns, column_of, children_of}
use Rattle.ipc_column.specs.Shapes.{Shape, bare, field, shape_of, shape_step, field_layout, child_shape, node_count, buffer_count}
use Rattle.ipc_column.specs.Shapes.{assigned_columns}
use Rattle.ipc_column.specs.Shapes.{column_at}

-- the columns of one list, followed by those of another
abbrev pub beside : Columns → Columns → Columns
beside none after = after
beside (column c children rest) after = column c children (beside rest after)

-- the shape below a field is that of its children
pub children_out : (f : Field) → child_shape f ≡ shape_of (out-Field f).children
children_out f = ap (λ (v : Layout × Shape). v.1) (fold_out-Field (Layout × Shape) shape_step f)

-- the fields from one on
pub shape_from : (fs : List Field) (i : ℕ) (f : Field) → i < length fs → f ≡ get_or fs i f
    → shape_of (drop i fs) ≡ field (field_layout f) (child_shape f) (shape_of (drop (i + 1) fs))
shape_from fs i f h e = rw (drop-cons fs i f) (rw (← e, add-one) refl)

-- the nodes of the fields from one on are its own, those below it and those of the fields behind it
pub nodes_from : (fs : List Field) (i : ℕ) (f : Field) → i < length fs → f ≡ get_or fs i f
    → node_count (shape_of (drop i fs)) ≡ 1 + node_count (child_shape f) + node_count (shape_of (drop (i + 1) fs))
unfolding node_count
nodes_from fs i f h e = rw (shape_from fs i f h e) refl

-- the buffers of the fields from one on are its own, those below it and those of the fields behind it
pub buffers_from : (fs : List Field) (i : ℕ) (f : Field) → i < length fs → f ≡ get_or fs i f
    → buffer_count (shape_of (drop i fs))
    ≡ own_buffers (field_layout f) + buffer_count (child_shape f) + buffer_count (shape_of (drop (i + 1) fs))
unfolding buffer_count
buffers_from fs i f h e = rw (shape_from fs i f h e) refl

-- behind the last field there are no nodes
pub nodes_done : (fs : List Field) (i : ℕ) → length fs ≤ i → node_count (shape_of (drop i fs)) ≡ 0
unfolding node_count
nodes_done fs i h = rw (drop_all i fs h) refl

-- behind the last field there are no buffers
pub buffers_done : (fs : List Field) (i : ℕ) → length fs ≤ i → buffer_count (shape_of (drop i fs)) ≡ 0
unfolding buffer_count
buffers_done fs i h = rw (drop_all i fs h) refl

-- a span of no bytes
pub empty_bytes : (body : List ℕ) → body_range body 0 0 ≡ []
unfolding body_range
empty_bytes body = elim (nat_le 0 (length body)) as (λ v. cond v (take 0 body) [] ≡ []) [ true ↦ refl | false ↦ refl ]

-- one part more
pub beside_push : (body : List ℕ) (ps : List ColumnRanges) (p : ColumnRanges) (ds : Columns)
    → beside (part_columns body (ps ++ p ∷ [])) ds ≡ beside (part_columns body ps) (column (column_of body p) (children_of body p) ds)
beside_push body [] p ds = refl
beside_push body (q ∷ ps) p ds = ap (λ (cs : Columns). column (column_of body q) (children_of body q) cs) (beside_push body ps p ds)

-- columns with none beside them are those columns
pub beside_none : (cs : Columns) → beside cs none ≡ cs
beside_none none = refl
beside_none (column c children rest) = ap (λ (ds : Columns). column c children ds) (beside_none rest)

-- the columns of the fields from one on are its own, those below it and those of the fields behind it
pub cut_from : (m : Dictionaries) (fs : List Field) (i : ℕ) (f : Field) (h : BatchHead) (body : List ℕ) (n b : ℕ) → i < length fs
    → f ≡ get_or fs i f
    → assigned_columns m (shape_of (drop i fs)) h body n b ≡ column (column_at m (field_layout f) h body n b)
    (assigned_columns m (child_shape f) h body (n + 1) (b + own_buffers (field_layout f)))
    (assigned_columns m (shape_of (drop (i + 1) fs)) h body (n + 1 + node_count (child_shape f))
    (b + own_buffers (field_layout f) + buffer_count (child_shape f)))
unfolding assigned_columns
cut_from m fs i f h body n b l e = rw (shape_from fs i f l e) refl

-- behind the last field there are no columns
pub cut_done : (m : Dictionaries) (fs : List Field) (i : ℕ) (h : BatchHead) (body : List ℕ) (n b : ℕ) → length fs ≤ i
    → assigned_columns m (shape_of (drop i fs)) h body n b ≡ none
unfolding assigned_columns
cut_done m fs i h body n b l = rw (drop_all i fs l) refl

-- one part more, and one field less
pub cut_step : (d : Dictionaries) (fs : List Field) (i : ℕ) (f : Field) (h : BatchHead) (body : List ℕ) (ps : List ColumnRanges)
    (p : ColumnRanges) (n b m k : ℕ) (all : Columns) → i < length fs → f ≡ get_or fs i f
    → column_of body p ≡ column_at d (field_layout f) h body n b
    → children_of body p ≡ assigned_columns d (child_shape f) h body (n + 1) (b + own_buffers (field_layout f))
    → m ≡ n + 1 + node_count (child_shape f) → k ≡ b + own_buffers (field_layout f) + buffer_count (child_shape f)
    → beside (part_columns body ps) (assigned_columns d (shape_of (drop i fs)) h body n b) ≡ all
    → beside (part_columns body (ps ++ p ∷ [])) (assigned_columns d (shape_of (drop (i + 1) fs)) h body m k) ≡ all
cut_step d fs i f h body ps p n b m k all l e ec ek em ed before =
    beside_push body ps p _ ∙ (rw (ec, ek, em, ed, ← cut_from d fs i f h body n b l e) before)

own_most : (l : Layout) → own_buffers l ≤ 3
own_most l.Null = lit≤ tt
own_most _ = lit≤ tt

-- fields have at most three buffers for each node
pub buffers_most : (s : Shape) → buffer_count s ≤ 3 * node_count s
unfolding node_count buffer_count
buffers_most bare = omega arith
buffers_most (field l children rest) =
    let a = own_most l in
    let b = buffers_most children in
    let c = buffers_most rest in
    omega (arith, a, b, c)
