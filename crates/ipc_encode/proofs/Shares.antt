-- Columns that keep to shares of a body.
use Rattle.std.proofs.Common.{◌≡◌, ℕ, zero, suc, ◌+◌, ◌*◌, ◌/◌, ◌≤◌, ◌<◌, Bool, true, false, cond, List, [], ◌∷◌}
use Rattle.std.proofs.Common.{length, arith, inl, inr}
use Rattle.std.proofs.Math.Nat.{add-mul, mul-div-le, mul-le-mul}
use Rattle.std.proofs.lemmas.Bool.{cases_lt}
use Rattle.std.specs.Prelude.{◌==◌}
use Rattle.ipc_model.specs.Layouts.{number_bytes}
use Rattle.ipc_model.specs.declared.layout.Layout.{Layout}
use Rattle.ipc_model.specs.declared.layout.Layout.TheVariants as l
use Rattle.ipc_model.specs.declared.limits.Limits.{Limits}
use Rattle.ipc_model.specs.declared.schema.IntBits.{IntBits}
use Rattle.ipc_model.specs.declared.schema.IntBits.TheVariants as bits
use Rattle.ipc_model.specs.declared.value.Value.{Value}
use Rattle.ipc_column.specs.Shapes.{Shape, bare, field, node_count}
use Rattle.ipc_encode.specs.Buffers.{buffers_of, child_values, column_buffers, padded_bytes}
use Rattle.ipc_encode.specs.Built.{AreBytesWithin, AreNodes, IsColumn}
use Rattle.ipc_encode.specs.Cells.{nulls}
use Rattle.ipc_encode.specs.Columns.{bits_length, data_in, offsets_length, validity_length, values_length}
use Rattle.ipc_encode.specs.Numbers.{Numbering}
use Rattle.ipc_encode.specs.declared.column.ColumnBuilder.{ColumnBuilder}
use Rattle.ipc_encode.specs.declared.tree.Node.{Node, out-Node}
use Rattle.ipc_encode.proofs.Growing.{IsAt, first, parts_length}
use Rattle.ipc_encode.proofs.Sizes.{column_size, same_data}

-- what a share of a body is at most
pub share_fits : (columns among body each : ℕ) → columns ≤ among → each ≤ body / among → columns * each ≤ body
share_fits columns among body each few small =
    let product = mul-le-mul few small in
    let within = mul-div-le body among in
    omega (arith, product, within)

not_more : (n most : ℕ) → (most < n → ⊥) → n ≤ most
not_more n most h = elim (cases_lt most n) as (λ _. n ≤ most) [ inl more ↦ absurd (h more) | inr less ↦ less ]

few_bytes : (b : IntBits) → number_bytes b ≤ 8
few_bytes bits.B8 = omega arith
few_bytes bits.B16 = omega arith
few_bytes bits.B32 = omega arith
few_bytes bits.B64 = omega arith

numbers_few : (b : IntBits) (signed : Bool) (vs : List Value) → data_in (l.Numbers b signed) vs ≤ 8 * length vs
numbers_few b signed [] = omega arith
numbers_few b signed (v ∷ vs) = let more = numbers_few b signed vs in let one = few_bytes b in omega (arith, more, one)

validity_few : (layout : Layout) (count null_count : ℕ) → validity_length layout count null_count ≤ bits_length count
validity_few l.Null count null_count = omega arith
validity_few _ count null_count =
    elim (null_count == 0) as (λ b. cond {A = ℕ} b 0 (bits_length count) ≤ bits_length count) [ true ↦ omega arith | false ↦ omega arith ]

-- the values of a column take at most eight bytes for each slot, or are the data of a body
values_few : (limits : Limits) (layout : Layout) (vs : List Value) → AreBytesWithin limits layout (data_in layout vs)
    → offsets_length layout (length vs) + values_length layout (length vs) (data_in layout vs) ≤ 8 * length vs + limits.body + 4
values_few limits l.Null vs h = omega arith
values_few limits l.Bits vs h = omega arith
values_few limits (l.Numbers bits signed) vs h = let few = numbers_few bits signed vs in omega (arith, few)
values_few limits (l.Indices bits signed id) vs h =
    let few = numbers_few bits signed vs in
    let same = same_data bits signed id vs in
    omega (arith, few, same)
values_few limits (l.FixedBytes width) vs h = omega (arith, h)
values_few limits (l.VariableBytes utf8) vs h = omega (arith, h)
values_few limits l.Lists vs h = omega arith
values_few limits l.Structs vs h = omega arith
values_few limits (l.FixedLists size) vs h = omega arith

-- the buffers of a column that keeps to the bounds are its share at most
column_share : (bounds : Limits) (layout : Layout) (vs : List Value) → length vs ≤ bounds.slots
    → AreBytesWithin bounds layout (data_in layout vs)
    → length (padded_bytes (column_buffers layout vs)) ≤ 9 * bounds.slots + bounds.body + 32
column_share bounds layout vs few short =
    let size = column_size layout vs in
    let marks = validity_few layout (length vs) (nulls vs) in
    let values = values_few bounds layout vs short in
    omega (arith, size, marks, values, few)

-- so those of all columns are their shares at most
pub columns_share : (known : Numbering) (bounds : Limits) (shape : Shape) (nodes : List Node) (given : ℕ → List Value)
    → AreNodes (IsColumn known bounds) shape nodes given
    → length (padded_bytes (buffers_of shape given)) ≤ node_count shape * (9 * bounds.slots + bounds.body + 32)
unfolding node_count
columns_share known bounds bare nodes given h = omega arith
columns_share known bounds (field l c rest) [] given h = absurd h
columns_share known bounds (field l c rest) (m ∷ ms) given h =
    let each = 9 * bounds.slots + bounds.body + 32 in
    let own = column_share bounds l (given 0) (not_more (length (given 0)) bounds.slots h.0.0.few) h.0.0.short in
    let inner = columns_share known bounds c _ (child_values l (given 0)) h.0.1 in
    let later = columns_share known bounds rest ms (λ j. given (suc j)) h.1 in
    let all = parts_length l c rest given in
    let first = add-mul (1 + node_count c) (node_count rest) each in
    let second = add-mul 1 (node_count c) each in
    omega (arith, own, inner, later, all, first, second)

-- the columns of one field more
pub count_next : (i : ℕ) (shape : Shape) (l : Layout) (c : Shape) → IsAt i shape l c
    → node_count (first (suc i) shape) ≡ node_count (first i shape) + node_count c + 1
unfolding node_count
count_next i bare l c h = absurd h
count_next zero (field k d rest) l c h = rw (h.1) (omega arith)
count_next (suc i) (field k d rest) l c h = let more = count_next i rest l c h in omega (arith, more)

-- columns that keep to narrower bounds keep to wider ones
pub columns_wider : (known : Numbering) (bounds limits : Limits) → bounds.slots ≤ limits.slots → bounds.body ≤ limits.body
    → (shape : Shape) (nodes : List Node) (given : ℕ → List Value) → AreNodes (IsColumn known bounds) shape nodes given
    → AreNodes (IsColumn known limits) shape nodes given
columns_wider known bounds limits few less bare [] given h = tt
columns_wider known bounds limits few less bare (m ∷ ms) given h = absurd h
columns_wider known bounds limits few less (field k c rest) [] given h = absurd h
columns_wider known bounds limits few less (field k c rest) (m ∷ ms) given h = (
  (
    column_wider k (given 0) (out-Node m).column h.0.0,
    columns_wider known bounds limits few less c _ (child_values k (given 0)) h.0.1,
  ),
  columns_wider known bounds limits few less rest ms (λ j. given (suc j)) h.1,
)
  where
    bytes_wider : (layout : Layout) (amount : ℕ) → AreBytesWithin bounds layout amount → AreBytesWithin limits layout amount
    bytes_wider (l.FixedBytes width) amount h = omega (arith, h, less)
    bytes_wider (l.VariableBytes utf8) amount h = omega (arith, h, less)
    bytes_wider _ amount h = tt

    column_wider : (layout : Layout) (vs : List Value) (column : ColumnBuilder) → IsColumn known bounds layout vs column
        → IsColumn known limits layout vs column
    column_wider layout vs column h = record {
      laid = h.laid;
      slots_are = h.slots_are;
      nulls_are = h.nulls_are;
      few = λ many. h.few (omega (arith, many, few));
      short = bytes_wider layout (data_in layout vs) h.short;
      validity_are = h.validity_are;
      holds = h.holds;
    }
