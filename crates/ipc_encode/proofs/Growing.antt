-- Columns one after another, and values that are added to them.
use Rattle.std.proofs.Common.{◌≡◌, ◌∙◌, refl, sym, ap, subst, ℕ, ◌+◌, ◌<◌, List, [], ◌∷◌, ◌++◌, length}
use Rattle.std.proofs.Common.{append_assoc, length-append, arith, zero, suc, get_or, ◌≤◌, false, cond, take, drop, inl, inr}
use Rattle.std.proofs.lemmas.Bool.{ne_eqb}
use Rattle.std.proofs.lemmas.List.{append-nil, with_items_is, take-append-drop}
use Rattle.std.specs.Prelude.{ℤ, pos, slice_set, map, ⊤, ◌==◌}
use Rattle.std.specs.Vec.{with_items}
use Rattle.ipc_model.specs.declared.fault.WriteFault.{WriteFault}
use Rattle.ipc_model.specs.declared.fault.WriteFault.TheVariants as fault
use Rattle.ipc_model.specs.declared.layout.Layout.{Layout}
use Rattle.ipc_model.specs.declared.layout.Layout.TheVariants as l
use Rattle.ipc_model.specs.declared.limits.Limits.{Limits}
use Rattle.ipc_model.specs.declared.schema.Field.{Field}
use Rattle.ipc_model.specs.declared.value.Value.{Value}
use Rattle.ipc_column.specs.Shapes.{Shape, bare, field, shapes, field_shape, shape_of}
use Rattle.ipc_encode.specs.Buffers.{padded_buffer, padded_bytes, ranges_from, child_values, row_columns, column_buffers, buffers_of}
use Rattle.ipc_encode.specs.Buffers.{column_nulls, rows_body, nodes_of}
use Rattle.ipc_encode.specs.Built.{AreNodes, IsColumn, IsNode, IsPushRefused, ArePushesRefused}
use Rattle.ipc_encode.specs.Cells.{nulls}
use Rattle.ipc_encode.specs.Columns.{bits_length, padded_length, validity_length, offsets_length, values_length, data_in}
use Rattle.ipc_encode.specs.Columns.{ExceedsOffsets}
use Rattle.ipc_encode.specs.Buffers.{SomeColumn}
use Rattle.ipc_encode.specs.Limits.{IsWithin}
use Rattle.ipc_encode.specs.Limits.{HasLongData, HasLongItems, HasLongNode, HasExcessData, AreRowsRefused}
use Rattle.ipc_encode.specs.Numbers.{Numbering}
use Rattle.ipc_encode.specs.declared.column.ColumnBuilder.{ColumnBuilder}
use Rattle.ipc_encode.specs.declared.fault.PushFault.{PushFault}
use Rattle.ipc_encode.specs.declared.fault.PushFault.TheVariants as push
use Rattle.ipc_encode.specs.declared.tree.Node.{Node, out-Node}
use Rattle.ipc_encode.specs.declared.tree.Node.TheOpen.{Node-F}
use Rattle.ipc_encode.specs.declared.tree.Node.TheViews.{out-roll-Node, roll-Node}
use Rattle.ipc_encode.proofs.Sizes.{column_short, column_size, long_is, long_from, column_length}
use Rattle.ipc_encode.proofs.Steps.{below_none, nulls_push, data_push, below_append, cells_append}

-- ---- buffers that are added one after another

-- the bytes of some buffers and then others are those of the first and then those of the others
pub joined_append : (xs ys : List (List ℕ)) → padded_bytes (xs ++ ys) ≡ padded_bytes xs ++ padded_bytes ys
joined_append [] ys = refl
joined_append (x ∷ xs) ys = ap (λ (bs : List ℕ). padded_buffer x ++ bs) (joined_append xs ys)
    ∙ sym (append_assoc (padded_buffer x) (padded_bytes xs) (padded_bytes ys))

-- the ranges of some buffers and then others are those of the first, and those of the others behind their bytes
pub ranges_append : (xs ys : List (List ℕ)) (start : ℕ)
    → ranges_from start (xs ++ ys) ≡ ranges_from start xs ++ ranges_from (start + length (padded_bytes xs)) ys
ranges_append [] ys start = ap (λ (n : ℕ). ranges_from n ys) (omega arith)
ranges_append (x ∷ xs) ys start =
    let size = length-append (padded_buffer x) (padded_bytes xs) in
    let e : start + length (padded_buffer x) + length (padded_bytes xs) ≡ start + length (padded_buffer x ++ padded_bytes xs) =
    omega (arith, size) in
    ap (λ (rs : List (ℤ × ℤ)). (pos start, pos (length x)) ∷ rs)
    (ranges_append xs ys (start + length (padded_buffer x))
    ∙ ap (λ (n : ℕ). ranges_from (start + length (padded_buffer x)) xs ++ ranges_from n ys) e)

-- ---- nodes side by side, and a node with those below it

-- the first so many nodes have one property of new values, and the others another of the old ones
abbrev pub AreMixed : (Layout → List Value → ColumnBuilder → Type 0) → (Layout → List Value → ColumnBuilder → Type 0) → ℕ → Shape
    → List Node
    → (ℕ → List Value) → (ℕ → List Value) → Type 0
AreMixed Q P zero shape nodes old new = AreNodes P shape nodes old
AreMixed Q P (suc i) bare [] old new = ⊤
AreMixed Q P (suc i) bare (n ∷ ns) old new = ⊥
AreMixed Q P (suc i) (field l c rest) [] old new = ⊥
AreMixed Q P (suc i) (field l c rest) (n ∷ ns) old new =
    IsNode Q l c n (new 0) × AreMixed Q P i rest ns (λ j. old (suc j)) (λ j. new (suc j))

-- node i has its new values
pub mixed_more : (Q P : Layout → List Value → ColumnBuilder → Type 0) (i : ℕ) (shape : Shape) (nodes : List Node) (old new : ℕ → List Value)
    (n d : Node) → i < length nodes
    → ((l : Layout) (c : Shape) → IsNode P l c (get_or nodes i d) (old i) → IsNode Q l c n (new i))
    → AreMixed Q P i shape nodes old new → AreMixed Q P (suc i) shape (slice_set nodes i n) old new
mixed_more Q P i bare [] old new n d l step h = absurd (omega arith)
mixed_more Q P zero bare (m ∷ ms) old new n d l step h = absurd h
mixed_more Q P (suc i) bare (m ∷ ms) old new n d l step h = absurd h
mixed_more Q P zero (field k c rest) [] old new n d l step h = absurd h
mixed_more Q P (suc i) (field k c rest) [] old new n d l step h = absurd h
mixed_more Q P zero (field k c rest) (m ∷ ms) old new n d l step h = (step k c h.0, h.1)
mixed_more Q P (suc i) (field k c rest) (m ∷ ms) old new n d l step h =
    (h.0, mixed_more Q P i rest ms (λ j. old (suc j)) (λ j. new (suc j)) n d (omega arith) step h.1)

-- every node has its new values
pub mixed_all : (Q P : Layout → List Value → ColumnBuilder → Type 0) (i : ℕ) (shape : Shape) (nodes : List Node) (old new : ℕ → List Value)
    → i ≡ length nodes → AreMixed Q P i shape nodes old new → AreNodes Q shape nodes new
mixed_all Q P zero bare [] old new e h = tt
mixed_all Q P (suc i) bare [] old new e h = tt
mixed_all Q P zero bare (m ∷ ms) old new e h = absurd h
mixed_all Q P (suc i) bare (m ∷ ms) old new e h = absurd h
mixed_all Q P zero (field k c rest) [] old new e h = absurd h
mixed_all Q P (suc i) (field k c rest) [] old new e h = absurd h
mixed_all Q P zero (field k c rest) (m ∷ ms) old new e h = absurd (omega arith)
mixed_all Q P (suc i) (field k c rest) (m ∷ ms) old new e h =
    (h.0, mixed_all Q P i rest ms (λ j. old (suc j)) (λ j. new (suc j)) (omega arith) h.1)

-- a changed node that has its values still
pub kept_at : (P : Layout → List Value → ColumnBuilder → Type 0) (i : ℕ) (shape : Shape) (nodes : List Node) (given : ℕ → List Value)
    (n d : Node)
    → i < length nodes → ((l : Layout) (c : Shape) (vs : List Value) → IsNode P l c (get_or nodes i d) vs → IsNode P l c n vs)
    → AreNodes P shape nodes given → AreNodes P shape (slice_set nodes i n) given
kept_at P i bare [] given n d l step h = absurd (omega arith)
kept_at P i bare (m ∷ ms) given n d l step h = absurd h
kept_at P i (field k c rest) [] given n d l step h = absurd h
kept_at P zero (field k c rest) (m ∷ ms) given n d l step h = (step k c (given 0) h.0, h.1)
kept_at P (suc i) (field k c rest) (m ∷ ms) given n d l step h =
    (h.0, kept_at P i rest ms (λ j. given (suc j)) n d (omega arith) step h.1)

-- ---- a node as it is put together

-- the property of a node by its parts
pub node_is : (P : Layout → List Value → ColumnBuilder → Type 0) (l : Layout) (c : Shape) (vs : List Value) (f : Node-F Node)
    → P l vs f.column → AreNodes P c f.children.items (child_values l vs) → IsNode P l c (roll-Node f) vs
node_is P l c vs f own inner =
    subst (λ (g : Node-F Node). P l vs g.column × AreNodes P c g.children.items (child_values l vs)) (sym (out-roll-Node f)) (own, inner)

-- the children of a node that were lent and came back
lent_back : (node : Node) (lent new : List Node) → lent ≡ (out-Node node).children.items → length new ≡ length lent
    → (out-Node (roll-Node (record {
      column = (out-Node node).column;
      children = with_items (out-Node node).children new;
    }))).children.items ≡ new
lent_back node lent new e size =
    let len : length new ≡ (out-Node node).children.len =
    omega (arith, size, ap (λ (ns : List Node). length ns) e, (out-Node node).children.ok) in
    ap (λ (g : Node-F Node). g.children.items) (out-roll-Node (record {
      column = (out-Node node).column;
      children = with_items (out-Node node).children new;
    })) ∙ with_items_is (out-Node node).children new len

-- its column stays
pub lent_column : (P : Layout → List Value → ColumnBuilder → Type 0) (l : Layout) (vs : List Value) (node : Node) (new : List Node)
    → P l vs (out-Node node).column
    → P l vs (out-Node (roll-Node (record {
      column = (out-Node node).column;
      children = with_items (out-Node node).children new;
    }))).column
lent_column P l vs node new h =
    let after : Node-F Node = record { column = (out-Node node).column; children = with_items (out-Node node).children new } in
    subst (λ (g : Node-F Node). P l vs g.column) (sym (out-roll-Node after)) h

-- its children have what they came back with
pub lent_children : (P : Layout → List Value → ColumnBuilder → Type 0) (c : Shape) (given : ℕ → List Value) (node : Node)
    (lent new : List Node)
    → lent ≡ (out-Node node).children.items → length new ≡ length lent → AreNodes P c new given
    → AreNodes P c (out-Node (roll-Node (record {
      column = (out-Node node).column;
      children = with_items (out-Node node).children new;
    }))).children.items given
lent_children P c given node lent new e size h =
    subst (λ (ns : List Node). AreNodes P c ns given) (sym (lent_back node lent new e size)) h

-- a node whose children have the values that more values give, and whose column has not
pub lent_node : (P : Layout → List Value → ColumnBuilder → Type 0) (l : Layout) (c : Shape) (vs ws : List Value) (node : Node)
    (lent new : List Node)
    → lent ≡ (out-Node node).children.items → length new ≡ length lent → IsNode P l c node vs
    → (AreNodes P c lent (child_values l vs) → AreNodes P c new (child_values l ws))
    → P l vs (out-Node (roll-Node (record {
      column = (out-Node node).column;
      children = with_items (out-Node node).children new;
    }))).column
    × AreNodes P c (out-Node (roll-Node (record {
      column = (out-Node node).column;
      children = with_items (out-Node node).children new;
    }))).children.items (child_values l ws)
lent_node P l c vs ws node lent new e size h more = (
  lent_column P l vs node new h.0,
  lent_children P c (child_values l ws) node lent new e size (more (subst (λ (ns : List Node). AreNodes P c ns (child_values l vs)) (sym e)
      h.1)),
)

-- ---- nodes that are made one after another

made_more : (P : Layout → List Value → ColumnBuilder → Type 0) (xs : List (Layout × Shape)) (ns : List Node) (x : Layout × Shape) (n : Node)
    → AreNodes P (shapes xs) ns (λ j. []) → IsNode P x.0 x.1 n [] → AreNodes P (shapes (xs ++ x ∷ [])) (ns ++ n ∷ []) (λ j. [])
made_more P [] [] x n h one = (one, tt)
made_more P [] (m ∷ ns) x n h one = absurd h
made_more P (y ∷ xs) [] x n h one = absurd h
made_more P (y ∷ xs) (m ∷ ns) x n h one = (h.0, made_more P xs ns x n h.1 one)

map_push : {X Y : Type 0} → (f : X → Y) (xs : List X) (x : X) → map f (xs ++ x ∷ []) ≡ map f xs ++ f x ∷ []
map_push f [] x = refl
map_push f (y ∷ xs) x = ap (λ (zs : List _). f y ∷ zs) (map_push f xs x)

-- one field more
pub node_more : (P : Layout → List Value → ColumnBuilder → Type 0) (fs : List Field) (ns : List Node) (f : Field) (n : Node)
    → AreNodes P (shape_of fs) ns (λ j. []) → IsNode P (field_shape f).0 (field_shape f).1 n []
    → AreNodes P (shape_of (fs ++ f ∷ [])) (ns ++ n ∷ []) (λ j. [])
node_more P fs ns f n h one =
    subst (λ (xs : List (Layout × Shape)). AreNodes P (shapes xs) (ns ++ n ∷ []) (λ j. [])) (sym (map_push field_shape fs f))
    (made_more P (map field_shape fs) ns (field_shape f) n h one)

-- nodes of no values below one of none
pub below_nothing : (P : Layout → List Value → ColumnBuilder → Type 0) (l : Layout) (c : Shape) (ns : List Node) → AreNodes P c ns (λ j. [])
    → AreNodes P c ns (child_values l [])
below_nothing P l c ns h = subst (λ (given : ℕ → List Value). AreNodes P c ns given) (λ d j. sym (below_none l j) d) h

-- ---- one value more

passes_more : (layout : Layout) (m n : ℕ) → m ≤ n → ExceedsOffsets layout m → ExceedsOffsets layout n
passes_more l.Lists m n e h = omega (arith, e, h)
passes_more (l.VariableBytes utf8) m n e h = omega (arith, e, h)
passes_more _ m n e h = h

long_more : (layout : Layout) (vs : List Value) (v : Value) → HasExcessData layout vs → HasExcessData layout (vs ++ v ∷ [])
long_more layout vs v h =
    let more = data_push layout vs v in
    long_is layout (vs ++ v ∷ []) (passes_more layout (data_in layout vs) (data_in layout (vs ++ v ∷ [])) (omega (arith, more))
    (long_from layout vs h))

values_grow : (layout : Layout) (n a b : ℕ) → a ≤ b → values_length layout n a ≤ values_length layout (n + 1) b
values_grow (l.Indices bits signed id) n a b h = h
values_grow (l.Numbers bits signed) n a b h = h
values_grow (l.FixedBytes width) n a b h = h
values_grow (l.VariableBytes utf8) n a b h = h
values_grow _ n a b h = omega arith

padded_grow : (a b : ℕ) → a ≤ b → padded_length a ≤ padded_length b
padded_grow a b h = omega arith

-- a bitmap of one slot more, where at least as many are null
bitmap_grow : (n c d : ℕ) → c ≤ d → cond (c == 0) 0 (bits_length n) ≤ cond (d == 0) 0 (bits_length (n + 1))
bitmap_grow n zero d h = omega arith
bitmap_grow n (suc c) zero h = absurd (omega arith)
bitmap_grow n (suc c) (suc d) h =
    let some : (suc c == 0) ≡ false = ne_eqb (suc c) 0 (λ e. omega arith) in
    let more : (suc d == 0) ≡ false = ne_eqb (suc d) 0 (λ e. omega arith) in
    rw (some, more) (omega arith)

validity_grow : (layout : Layout) (n c d : ℕ) → c ≤ d → validity_length layout n c ≤ validity_length layout (n + 1) d
validity_grow l.Null n c d h = omega arith
validity_grow _ n c d h = bitmap_grow n c d h

offsets_grow : (layout : Layout) (n : ℕ) → offsets_length layout n ≤ offsets_length layout (n + 1)
offsets_grow l.Null n = omega arith
offsets_grow _ n = omega arith

add_grow : (a b c d e f : ℕ) → a ≤ d → b ≤ e → c ≤ f → a + b + c ≤ d + e + f
add_grow a b c d e f x y z = omega arith

column_grow : (layout : Layout) (n c d a b : ℕ) → c ≤ d → a ≤ b → column_length layout n c a ≤ column_length layout (n + 1) d b
column_grow layout n c d a b h g =
    add_grow _ _ _ _ _ _ (padded_grow _ _ (validity_grow layout n c d h)) (padded_grow _ _ (offsets_grow layout n)) (padded_grow _ _ g)

-- the buffers of a column with one value more are no shorter
buffers_grow : (layout : Layout) (vs : List Value) (v : Value)
    → length (padded_bytes (column_buffers layout vs)) ≤ length (padded_bytes (column_buffers layout (vs ++ v ∷ [])))
buffers_grow layout vs v =
    let size = length-append vs (v ∷ []) in
    let count : length (vs ++ v ∷ []) ≡ length vs + 1 = omega (arith, size) in
    let none = nulls_push vs v in
    let amount = data_push layout vs v in
    let more = column_grow layout (length vs) (nulls vs) (nulls (vs ++ v ∷ [])) _ _ (omega (arith, none))
    (values_grow layout (length vs) (data_in layout vs) (data_in layout (vs ++ v ∷ [])) (omega (arith, amount))) in
    rw (column_size layout vs, column_size layout (vs ++ v ∷ []), count) more

-- ---- more values

-- a property that one value more leaves is one that more values leave
always_more : (P : List Value → Type 0) → ((vs : List Value) (v : Value) → P vs → P (vs ++ v ∷ [])) → (vs more : List Value) → P vs
    → P (vs ++ more)
always_more P step vs [] h = subst P (sym (append-nil vs)) h
always_more P step vs (v ∷ more) h = subst P (append_assoc vs (v ∷ []) more) (always_more P step (vs ++ v ∷ []) more (step vs v h))

pub long_data_more : (layout : Layout) (vs more : List Value) → HasExcessData layout vs → HasExcessData layout (vs ++ more)
long_data_more layout vs more h = always_more (HasExcessData layout) (long_more layout) vs more h

pub column_more : (layout : Layout) (vs more : List Value)
    → length (padded_bytes (column_buffers layout vs)) ≤ length (padded_bytes (column_buffers layout (vs ++ more)))
column_more layout vs more =
    always_more (λ (ws : List Value). length (padded_bytes (column_buffers layout vs)) ≤ length (padded_bytes (column_buffers layout ws)))
    (λ ws v h. let grown = buffers_grow layout ws v in omega (arith, grown, h)) vs more (omega arith)

-- ---- more values in each column

pub long_nodes_grow : (most : ℕ) (shape : Shape) (given more : ℕ → List Value) → HasLongNode most shape given
    → HasLongNode most shape (λ j. given j ++ more j)
long_nodes_grow most bare given more h = absurd h
long_nodes_grow most (field l c rest) given more (inl own) = let size = length-append (given 0) (more 0) in inl (omega (arith, size, own))
long_nodes_grow most (field l c rest) given more (inr (inl child)) =
    inr (inl (subst (λ (inner : ℕ → List Value). HasLongNode most c inner) (λ d j. sym (below_append l (given 0) (more 0) j) d)
    (long_nodes_grow most c (child_values l (given 0)) (child_values l (more 0)) child)))
long_nodes_grow most (field l c rest) given more (inr (inr later)) =
    inr (inr (long_nodes_grow most rest (λ j. given (suc j)) (λ j. more (suc j)) later))

-- a property of one of the columns that more values leave
some_grow : (P : Layout → List Value → Type 0) → ((layout : Layout) (vs more : List Value) → P layout vs → P layout (vs ++ more))
    → (shape : Shape) (given more : ℕ → List Value) → SomeColumn P shape given → SomeColumn P shape (λ j. given j ++ more j)
some_grow P grow bare given more h = absurd h
some_grow P grow (field l c rest) given more (inl own) = inl (grow l (given 0) (more 0) own)
some_grow P grow (field l c rest) given more (inr (inl child)) =
    inr (inl (subst (λ (inner : ℕ → List Value). SomeColumn P c inner) (λ d j. sym (below_append l (given 0) (more 0) j) d)
    (some_grow P grow c (child_values l (given 0)) (child_values l (more 0)) child)))
some_grow P grow (field l c rest) given more (inr (inr later)) =
    inr (inr (some_grow P grow rest (λ j. given (suc j)) (λ j. more (suc j)) later))

data_more : (layout : Layout) (vs more : List Value) → HasLongData layout vs → HasLongData layout (vs ++ more)
data_more (l.VariableBytes utf8) vs more h = long_data_more (l.VariableBytes utf8) vs more h
data_more _ vs more h = absurd h

items_more : (layout : Layout) (vs more : List Value) → HasLongItems layout vs → HasLongItems layout (vs ++ more)
items_more l.Lists vs more h = long_data_more l.Lists vs more h
items_more _ vs more h = absurd h

long_data_grow : (shape : Shape) (given more : ℕ → List Value) → SomeColumn HasLongData shape given
    → SomeColumn HasLongData shape (λ j. given j ++ more j)
long_data_grow shape given more h = some_grow HasLongData data_more shape given more h

long_items_grow : (shape : Shape) (given more : ℕ → List Value) → SomeColumn HasLongItems shape given
    → SomeColumn HasLongItems shape (λ j. given j ++ more j)
long_items_grow shape given more h = some_grow HasLongItems items_more shape given more h

-- a column's buffers, those below it, and the others
pub parts_length : (l : Layout) (c rest : Shape) (given : ℕ → List Value)
    → length (padded_bytes (buffers_of (field l c rest) given))
    ≡ length (padded_bytes (column_buffers l (given 0))) + length (padded_bytes (buffers_of c (child_values l (given 0))))
    + length (padded_bytes (buffers_of rest (λ j. given (suc j))))
parts_length l c rest given =
    let own = column_buffers l (given 0) in
    let inner = buffers_of c (child_values l (given 0)) in
    let others = buffers_of rest (λ j. given (suc j)) in
    let whole = ap (λ (bs : List ℕ). length bs) (joined_append own (inner ++ others)) in
    let last = ap (λ (bs : List ℕ). length bs) (joined_append inner others) in
    let a = length-append (padded_bytes own) (padded_bytes (inner ++ others)) in
    let b = length-append (padded_bytes inner) (padded_bytes others) in
    omega (arith, whole, last, a, b)

pub body_grows : (shape : Shape) (given more : ℕ → List Value)
    → length (padded_bytes (buffers_of shape given)) ≤ length (padded_bytes (buffers_of shape (λ j. given j ++ more j)))
body_grows bare given more = omega arith
body_grows (field l c rest) given more =
    let own = column_more l (given 0) (more 0) in
    let inner = subst (λ (g : ℕ → List Value). length (padded_bytes (buffers_of c (child_values l (given 0))))
    ≤ length (padded_bytes (buffers_of c g)))
    (λ d j. sym (below_append l (given 0) (more 0) j) d) (body_grows c (child_values l (given 0)) (child_values l (more 0))) in
    let later = body_grows rest (λ j. given (suc j)) (λ j. more (suc j)) in
    let old = parts_length l c rest given in
    let new = parts_length l c rest (λ j. given j ++ more j) in
    omega (arith, own, inner, later, old, new)

-- why values aren't taken is why they aren't with more
pub refused_grow : (limits : Limits) (shape : Shape) (given more : ℕ → List Value) (e : PushFault) → ArePushesRefused limits shape given e
    → ArePushesRefused limits shape (λ j. given j ++ more j) e
refused_grow limits shape given more push.TooLong (inl long) = inl (long_data_grow shape given more long)
refused_grow limits shape given more push.TooLong (inr body) = let grown = body_grows shape given more in inr (omega (arith, grown, body))
refused_grow limits shape given more push.TooMany (inl slots) = inl (long_nodes_grow limits.slots shape given more slots)
refused_grow limits shape given more push.TooMany (inr items) = inr (long_items_grow shape given more items)
refused_grow limits shape given more _ h = h

-- ---- one of several columns

pub own_refused : (limits : Limits) (l : Layout) (c rest : Shape) (given : ℕ → List Value) (e : PushFault)
    → IsPushRefused limits l (given 0) e
    → ArePushesRefused limits (field l c rest) given e
own_refused limits l c rest given push.TooLong (inl long) = inl (inl long)
own_refused limits l c rest given push.TooLong (inr body) = let size = parts_length l c rest given in inr (omega (arith, size, body))
own_refused limits l c rest given push.TooMany (inl slots) = inl (inl slots)
own_refused limits l c rest given push.TooMany (inr items) = inr (inl items)
own_refused limits l c rest given _ h = h

pub child_refused : (limits : Limits) (l : Layout) (c rest : Shape) (given : ℕ → List Value) (e : PushFault)
    → ArePushesRefused limits c (child_values l (given 0)) e → ArePushesRefused limits (field l c rest) given e
child_refused limits l c rest given push.TooLong (inl long) = inl (inr (inl long))
child_refused limits l c rest given push.TooLong (inr body) = let size = parts_length l c rest given in inr (omega (arith, size, body))
child_refused limits l c rest given push.TooMany (inl slots) = inl (inr (inl slots))
child_refused limits l c rest given push.TooMany (inr items) = inr (inr (inl items))
child_refused limits l c rest given _ h = h

pub later_refused : (limits : Limits) (l : Layout) (c rest : Shape) (given : ℕ → List Value) (e : PushFault)
    → ArePushesRefused limits rest (λ j. given (suc j)) e → ArePushesRefused limits (field l c rest) given e
later_refused limits l c rest given push.TooLong (inl long) = inl (inr (inr long))
later_refused limits l c rest given push.TooLong (inr body) = let size = parts_length l c rest given in inr (omega (arith, size, body))
later_refused limits l c rest given push.TooMany (inl slots) = inl (inr (inr slots))
later_refused limits l c rest given push.TooMany (inr items) = inr (inr (inr items))
later_refused limits l c rest given _ h = h

pub first_refused : (limits : Limits) (l : Layout) (c rest : Shape) (given : ℕ → List Value) (e : PushFault)
    → ArePushesRefused limits (field l c bare) (λ j. given 0) e → ArePushesRefused limits (field l c rest) given e
first_refused limits l c rest given push.TooLong (inl (inl long)) = inl (inl long)
first_refused limits l c rest given push.TooLong (inl (inr (inl long))) = inl (inr (inl long))
first_refused limits l c rest given push.TooLong (inl (inr (inr none))) = absurd none
first_refused limits l c rest given push.TooLong (inr body) =
    let size = parts_length l c rest given in
    let alone = parts_length l c bare (λ j. given 0) in
    inr (omega (arith, size, alone, body))
first_refused limits l c rest given push.TooMany (inl (inl own)) = inl (inl own)
first_refused limits l c rest given push.TooMany (inl (inr (inl child))) = inl (inr (inl child))
first_refused limits l c rest given push.TooMany (inl (inr (inr none))) = absurd none
first_refused limits l c rest given push.TooMany (inr (inl own)) = inr (inl own)
first_refused limits l c rest given push.TooMany (inr (inr (inl child))) = inr (inr (inl child))
first_refused limits l c rest given push.TooMany (inr (inr (inr none))) = absurd none
first_refused limits l c rest given _ h = h

-- why node i doesn't take its values is why all nodes don't take theirs
pub mixed_refused : (limits : Limits) (Q P : Layout → List Value → ColumnBuilder → Type 0) (i : ℕ) (shape : Shape) (nodes : List Node)
    (old new : ℕ → List Value) (d : Node) (e : PushFault) → i < length nodes
    → ((l : Layout) (c : Shape) → IsNode P l c (get_or nodes i d) (old i) → ArePushesRefused limits (field l c bare) (λ j. new i) e)
    → AreMixed Q P i shape nodes old new → ArePushesRefused limits shape new e
mixed_refused limits Q P i bare [] old new d e l step h = absurd (omega arith)
mixed_refused limits Q P zero bare (m ∷ ms) old new d e l step h = absurd h
mixed_refused limits Q P (suc i) bare (m ∷ ms) old new d e l step h = absurd h
mixed_refused limits Q P zero (field k c rest) [] old new d e l step h = absurd h
mixed_refused limits Q P (suc i) (field k c rest) [] old new d e l step h = absurd h
mixed_refused limits Q P zero (field k c rest) (m ∷ ms) old new d e l step h = first_refused limits k c rest new e (step k c h.0)
mixed_refused limits Q P (suc i) (field k c rest) (m ∷ ms) old new d e l step h =
    later_refused limits k c rest new e
    (mixed_refused limits Q P i rest ms (λ j. old (suc j)) (λ j. new (suc j)) d e (omega arith) step h.1)

-- why the first of some values aren't taken is why they all aren't
pub all_refused : (limits : Limits) (l : Layout) (c : Shape) (before values : List Value) (i : ℕ) (e : PushFault)
    → ArePushesRefused limits (field l c bare) (λ j. before ++ take i values) e
    → ArePushesRefused limits (field l c bare) (λ j. before ++ values) e
all_refused limits l c before values i e h =
    let whole : (before ++ take i values) ++ drop i values ≡ before ++ values =
    append_assoc before (take i values) (drop i values) ∙ ap (λ (vs : List Value). before ++ vs) (take-append-drop i values) in
    subst (λ (vs : List Value). ArePushesRefused limits (field l c bare) (λ j. vs) e) whole
    (refused_grow limits (field l c bare) (λ j. before ++ take i values) (λ j. drop i values) e h)

-- ---- more rows

-- what is refused of some rows is refused of them with others behind them
pub refused_more : (limits : Limits) (fields : List Field) (rows more : List (List Value)) (e : WriteFault)
    → AreRowsRefused limits fields rows e
    → AreRowsRefused limits fields (rows ++ more) e
refused_more limits fields rows more fault.TooLong (inl long) =
    inl (subst (λ (given : ℕ → List Value). SomeColumn HasLongData (shape_of fields) given) (λ d j. sym (cells_append j rows more) d)
    (long_data_grow (shape_of fields) (row_columns rows) (row_columns more) long))
refused_more limits fields rows more fault.TooLong (inr body) =
    let grown = subst (λ (given : ℕ → List Value). length (rows_body fields rows)
    ≤ length (padded_bytes (buffers_of (shape_of fields) given)))
    (λ d j. sym (cells_append j rows more) d) (body_grows (shape_of fields) (row_columns rows) (row_columns more)) in
    inr (omega (arith, grown, body))
refused_more limits fields rows more fault.TooManyRows (inl many) = let size = length-append rows more in inl (omega (arith, size, many))
refused_more limits fields rows more fault.TooManyRows (inr (inl long)) =
    inr (inl (subst (λ (given : ℕ → List Value). HasLongNode limits.slots (shape_of fields) given) (λ d j. sym (cells_append j rows more) d)
    (long_nodes_grow limits.slots (shape_of fields) (row_columns rows) (row_columns more) long)))
refused_more limits fields rows more fault.TooManyRows (inr (inr items)) =
    inr (inr (subst (λ (given : ℕ → List Value). SomeColumn HasLongItems (shape_of fields) given) (λ d j. sym (cells_append j rows more) d)
    (long_items_grow (shape_of fields) (row_columns rows) (row_columns more) items)))
refused_more limits fields rows more fault.OutOfMemory h = h
refused_more limits fields rows more _ h = h

-- rows are within the limits where they are with others behind them
pub fewer_within : (limits : Limits) (fields : List Field) (rows more : List (List Value)) → IsWithin limits fields (rows ++ more)
    → IsWithin limits fields rows
fewer_within limits fields rows more h = record {
  few = λ many. h.few (refused_more limits fields rows more fault.TooManyRows many);
  short = λ long. h.short (refused_more limits fields rows more fault.TooLong long);
}

-- ---- the first so many of several columns

-- the first so many fields
abbrev pub first : ℕ → Shape → Shape
first zero shape = bare
first (suc i) bare = bare
first (suc i) (field l c rest) = field l c (first i rest)

-- field i has this layout and these children
abbrev pub IsAt : ℕ → Shape → Layout → Shape → Type 0
IsAt i bare l c = ⊥
IsAt zero (field k d rest) l c = (k ≡ l) × (d ≡ c)
IsAt (suc i) (field k d rest) l c = IsAt i rest l c

-- node i is that of field i
pub at_node : (P : Layout → List Value → ColumnBuilder → Type 0) (i : ℕ) (shape : Shape) (nodes : List Node) (given : ℕ → List Value)
    (d : Node)
    → i < length nodes → AreNodes P shape nodes given
    → (l : Layout) × (c : Shape) × IsAt i shape l c × IsNode P l c (get_or nodes i d) (given i)
at_node P i bare [] given d l h = absurd (omega arith)
at_node P i bare (m ∷ ms) given d l h = absurd h
at_node P i (field k c rest) [] given d l h = absurd h
at_node P zero (field k c rest) (m ∷ ms) given d l h = (k, c, (refl, refl), h.0)
at_node P (suc i) (field k c rest) (m ∷ ms) given d l h = at_node P i rest ms (λ j. given (suc j)) d (omega arith) h.1

-- the first of all fields are all
pub first_all : (P : Layout → List Value → ColumnBuilder → Type 0) (i : ℕ) (shape : Shape) (nodes : List Node) (given : ℕ → List Value)
    → i ≡ length nodes → AreNodes P shape nodes given → first i shape ≡ shape
first_all P zero bare [] given e h = refl
first_all P (suc i) bare [] given e h = refl
first_all P i bare (m ∷ ms) given e h = absurd h
first_all P i (field k c rest) [] given e h = absurd h
first_all P zero (field k c rest) (m ∷ ms) given e h = absurd (omega arith)
first_all P (suc i) (field k c rest) (m ∷ ms) given e h =
    ap (λ (s : Shape). field k c s) (first_all P i rest ms (λ j. given (suc j)) (omega arith) h.1)

-- it has whatever values are given to its children
pub leaf_has : (P : Layout → List Value → ColumnBuilder → Type 0) (c : Shape) (nodes : List Node) (given other : ℕ → List Value)
    → length nodes ≡ 0
    → AreNodes P c nodes given → AreNodes P c nodes other
leaf_has P bare [] given other e h = tt
leaf_has P bare (m ∷ ms) given other e h = absurd h
leaf_has P (field k c rest) [] given other e h = absurd h
leaf_has P (field k c rest) (m ∷ ms) given other e h = absurd (omega arith)

-- ---- one field more

-- the buffers of one field more
pub buffers_next : (i : ℕ) (shape : Shape) (given : ℕ → List Value) (l : Layout) (c : Shape) → IsAt i shape l c
    → buffers_of (first (suc i) shape) given ≡ buffers_of (first i shape) given ++ buffers_of (field l c bare) (λ j. given i)
buffers_next i bare given l c h = absurd h
buffers_next zero (field k d rest) given l c h = rw (h.0, h.1) refl
buffers_next (suc i) (field k d rest) given l c h =
    let own = column_buffers k (given 0) in
    let inner = buffers_of d (child_values k (given 0)) in
    let later = buffers_of (first i rest) (λ j. given (suc j)) in
    let one = buffers_of (field l c bare) (λ j. given (suc i)) in
    ap (λ (bs : List (List ℕ)). own ++ (inner ++ bs)) (buffers_next i rest (λ j. given (suc j)) l c h)
    ∙ (ap (λ (bs : List (List ℕ)). own ++ bs) (sym (append_assoc inner later one)) ∙ sym (append_assoc own (inner ++ later) one))

-- the nodes of one field more
pub nodes_next : (i : ℕ) (shape : Shape) (given : ℕ → List Value) (l : Layout) (c : Shape) → IsAt i shape l c
    → nodes_of (first (suc i) shape) given ≡ nodes_of (first i shape) given ++ nodes_of (field l c bare) (λ j. given i)
nodes_next i bare given l c h = absurd h
nodes_next zero (field k d rest) given l c h = rw (h.0, h.1) refl
nodes_next (suc i) (field k d rest) given l c h =
    let inner = nodes_of d (child_values k (given 0)) in
    let later = nodes_of (first i rest) (λ j. given (suc j)) in
    let one = nodes_of (field l c bare) (λ j. given (suc i)) in
    ap (λ (ns : List (ℤ × ℤ)). (pos (length (given 0)), pos (column_nulls k (given 0))) ∷ (inner ++ ns))
    (nodes_next i rest (λ j. given (suc j)) l c h)
    ∙ ap (λ (ns : List (ℤ × ℤ)). (pos (length (given 0)), pos (column_nulls k (given 0))) ∷ ns) (sym (append_assoc inner later one))

-- the bytes of one field more
pub bytes_next : (i : ℕ) (shape : Shape) (given : ℕ → List Value) (l : Layout) (c : Shape) → IsAt i shape l c
    → length (padded_bytes (buffers_of (first (suc i) shape) given))
    ≡ length (padded_bytes (buffers_of (first i shape) given)) + length (padded_bytes (buffers_of (field l c bare) (λ j. given i)))
bytes_next i shape given l c h =
    let so_far = buffers_of (first i shape) given in
    let one = buffers_of (field l c bare) (λ j. given i) in
    ap (λ (bs : List (List ℕ)). length (padded_bytes bs)) (buffers_next i shape given l c h)
    ∙ (ap (λ (bs : List ℕ). length bs) (joined_append so_far one) ∙ length-append (padded_bytes so_far) (padded_bytes one))

-- the first fields have no more bytes than all
pub first_within : (i : ℕ) (shape : Shape) (given : ℕ → List Value)
    → length (padded_bytes (buffers_of (first i shape) given)) ≤ length (padded_bytes (buffers_of shape given))
first_within zero shape given = omega arith
first_within (suc i) bare given = omega arith
first_within (suc i) (field k c rest) given =
    let more = first_within i rest (λ j. given (suc j)) in
    let some = parts_length k c (first i rest) given in
    let all = parts_length k c rest given in
    omega (arith, more, some, all)

-- ---- one field more that is within the limits

-- a fact of one field more that neither the first fields nor this one has
pub few_next : (most i : ℕ) (shape : Shape) (given : ℕ → List Value) (l : Layout) (c : Shape) → IsAt i shape l c
    → (HasLongNode most (first i shape) given → ⊥) → (HasLongNode most (field l c bare) (λ j. given i) → ⊥)
    → HasLongNode most (first (suc i) shape) given → ⊥
few_next most i bare given l c at so one h = absurd at
few_next most zero (field k d rest) given l c at so one h =
    one (subst (λ (s : Shape). HasLongNode most (field l s bare) (λ j. given 0)) at.1
    (subst (λ (m : Layout). HasLongNode most (field m d bare) (λ j. given 0)) at.0 h))
few_next most (suc i) (field k d rest) given l c at so one (inl own) = so (inl own)
few_next most (suc i) (field k d rest) given l c at so one (inr (inl child)) = so (inr (inl child))
few_next most (suc i) (field k d rest) given l c at so one (inr (inr later)) =
    few_next most i rest (λ j. given (suc j)) l c at (λ x. so (inr (inr x))) one later

pub short_next : (i : ℕ) (shape : Shape) (given : ℕ → List Value) (l : Layout) (c : Shape) → IsAt i shape l c
    → (SomeColumn HasExcessData (first i shape) given → ⊥) → (SomeColumn HasExcessData (field l c bare) (λ j. given i) → ⊥)
    → SomeColumn HasExcessData (first (suc i) shape) given → ⊥
short_next i bare given l c at so one h = absurd at
short_next zero (field k d rest) given l c at so one h =
    one (subst (λ (s : Shape). SomeColumn HasExcessData (field l s bare) (λ j. given 0)) at.1
    (subst (λ (m : Layout). SomeColumn HasExcessData (field m d bare) (λ j. given 0)) at.0 h))
short_next (suc i) (field k d rest) given l c at so one (inl own) = so (inl own)
short_next (suc i) (field k d rest) given l c at so one (inr (inl child)) = so (inr (inl child))
short_next (suc i) (field k d rest) given l c at so one (inr (inr later)) =
    short_next i rest (λ j. given (suc j)) l c at (λ x. so (inr (inr x))) one later

-- ---- one field more that isn't

pub long_node_at : (most i : ℕ) (shape : Shape) (given : ℕ → List Value) (l : Layout) (c : Shape) → IsAt i shape l c
    → HasLongNode most (field l c bare) (λ j. given i) → HasLongNode most shape given
long_node_at most i bare given l c at h = absurd at
long_node_at most zero (field k d rest) given l c at (inl own) = inl own
long_node_at most zero (field k d rest) given l c at (inr (inl child)) =
    inr (inl (subst (λ (m : Layout). HasLongNode most d (child_values m (given 0))) (sym at.0)
    (subst (λ (s : Shape). HasLongNode most s (child_values l (given 0))) (sym at.1) child)))
long_node_at most zero (field k d rest) given l c at (inr (inr none)) = absurd none
long_node_at most (suc i) (field k d rest) given l c at h = inr (inr (long_node_at most i rest (λ j. given (suc j)) l c at h))

pub some_at : (P : Layout → List Value → Type 0) (i : ℕ) (shape : Shape) (given : ℕ → List Value) (l : Layout) (c : Shape)
    → IsAt i shape l c
    → SomeColumn P (field l c bare) (λ j. given i) → SomeColumn P shape given
some_at P i bare given l c at h = absurd at
some_at P zero (field k d rest) given l c at (inl own) =
    inl (subst (λ (m : Layout). P m (given 0)) (sym at.0) own)
some_at P zero (field k d rest) given l c at (inr (inl child)) =
    inr (inl (subst (λ (m : Layout). SomeColumn P d (child_values m (given 0))) (sym at.0)
    (subst (λ (s : Shape). SomeColumn P s (child_values l (given 0))) (sym at.1) child)))
some_at P zero (field k d rest) given l c at (inr (inr none)) = absurd none
some_at P (suc i) (field k d rest) given l c at h = inr (inr (some_at P i rest (λ j. given (suc j)) l c at h))

-- where the first fields leave too little for the next, all are too much
pub past_next : (i : ℕ) (shape : Shape) (given : ℕ → List Value) (l : Layout) (c : Shape) (bytes left : ℕ) → IsAt i shape l c
    → length (padded_bytes (buffers_of (first i shape) given)) + left ≡ bytes
    → left < length (padded_bytes (buffers_of (field l c bare) (λ j. given i))) → bytes < length (padded_bytes (buffers_of shape given))
past_next i shape given l c bytes left at so more =
    let size = bytes_next i shape given l c at in
    let within = first_within (suc i) shape given in
    omega (arith, size, within, so, more)

-- ---- columns are within the limits

pub held_few : (known : Numbering) (limits : Limits) (shape : Shape) (nodes : List Node) (given : ℕ → List Value)
    → AreNodes (IsColumn known limits) shape nodes given → HasLongNode limits.slots shape given → ⊥
held_few known limits bare nodes given h x = x
held_few known limits (field l c rest) [] given h x = absurd h
held_few known limits (field l c rest) (m ∷ ms) given h (inl own) = h.0.0.few own
held_few known limits (field l c rest) (m ∷ ms) given h (inr (inl child)) = held_few known limits c _ (child_values l (given 0)) h.0.1 child
held_few known limits (field l c rest) (m ∷ ms) given h (inr (inr later)) = held_few known limits rest ms (λ j. given (suc j)) h.1 later

pub held_short : (known : Numbering) (limits : Limits) (shape : Shape) (nodes : List Node) (given : ℕ → List Value)
    → AreNodes (IsColumn known limits) shape nodes given → SomeColumn HasExcessData shape given → ⊥
held_short known limits bare nodes given h x = x
held_short known limits (field l c rest) [] given h x = absurd h
held_short known limits (field l c rest) (m ∷ ms) given h (inl own) = column_short known limits l (given 0) _ h.0.0 own
held_short known limits (field l c rest) (m ∷ ms) given h (inr (inl child)) =
    held_short known limits c _ (child_values l (given 0)) h.0.1 child
held_short known limits (field l c rest) (m ∷ ms) given h (inr (inr later)) =
    held_short known limits rest ms (λ j. given (suc j)) h.1 later

-- ---- a column without children

pub few_leaf : (most : ℕ) (l : Layout) (vs : List Value) → (most < length vs → ⊥) → HasLongNode most (field l bare bare) (λ j. vs) → ⊥
few_leaf most l vs few (inl own) = few own
few_leaf most l vs few (inr (inl none)) = none
few_leaf most l vs few (inr (inr none)) = none

pub short_leaf : (l : Layout) (vs : List Value) → (HasExcessData l vs → ⊥) → SomeColumn HasExcessData (field l bare bare) (λ j. vs) → ⊥
short_leaf l vs short (inl own) = short own
short_leaf l vs short (inr (inl none)) = none
short_leaf l vs short (inr (inr none)) = none
