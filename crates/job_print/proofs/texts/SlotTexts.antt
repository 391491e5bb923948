-- What slots hold, and their texts.
use Rattle.std.proofs.Common.{◌≡◌, ◌∙◌, refl, sym, ap, ℕ, zero, suc, ◌+◌, ◌-◌, ◌<◌, ◌≤◌, List, [], ◌∷◌, length, map, Some, drop, le-leb}
use Rattle.std.proofs.Common.{arith, subst, replicate}
use Rattle.std.specs.Prelude.{nat_lt, slice_get, true}
use Rattle.job_print.proofs.Trees.{some_same}
use Rattle.std.proofs.lemmas.List.{drop_all}
use Rattle.std.proofs.lemmas.Option.{get_or_from_slice_get, none-some}
use Rattle.ipc_model.specs.declared.schema.Field.{Field, out-Field, fold_out-Field}
use Rattle.ipc_model.specs.declared.value.Value.{Value, out-Value, out-roll-Value}
use Rattle.ipc_model.specs.declared.value.Value.TheOpen.{Value-F}
use Rattle.ipc_model.specs.declared.value.Value.TheVariants as v
use Rattle.ipc_column.specs.declared.ranges.ColumnRanges.{ColumnRanges}
use Rattle.ipc_column.specs.declared.ranges.ColumnRanges.TheViews.{out-ColumnRanges}
use Rattle.ipc_column.specs.declared.slot_view.Slot.{Slot}
use Rattle.ipc_column.specs.declared.slot_view.Slot.TheVariants as slot
use Rattle.ipc_column.specs.Columns.{Columns, EachTop}
use Rattle.ipc_column.specs.Lent.{without_null_count}
use Rattle.ipc_column.specs.Nested.{Nested, child_columns, slot_values}
use Rattle.ipc_column.specs.Slots.{nested, nested_in, value_in_slot}
use Rattle.ipc_column.specs.Values.{first_of, values_from, row, value_of}
use Rattle.ipc_column.specs.Views.{part_columns, column_of, children_of}
use Rattle.ipc_column.proofs.visited.Leads.{slot_shows}
use Rattle.ipc_column.proofs.Parts.{children_out}
use Rattle.ipc_column.proofs.lending.Slots.{items_length}
use Rattle.serde_json.specs.Data.{null}
use Rattle.ipc_column.proofs.Cells.{row_length}
use Rattle.ipc_text_csv.specs.declared.dialect.Dialect.{Dialect}
use Rattle.ipc_text_csv.specs.RowCsv.{csv_text, own_text}
use Rattle.ipc_text_json.specs.declared.row.RowShape.{RowShape}
use Rattle.ipc_text_json.specs.RowJson.{Printed, cell_json, field_json, row_field, value_json}
use Rattle.job_print.specs.LentSlots.{HaveSlot, HasListSlots, list_values, slot_value, values_between}

-- what a slot shows, in the open form of values
abbrev pub open_slot : (ℕ → List Value) → ℕ → Slot → Value-F Value
open_slot child_columns i slot.Null = Value-F.Null
open_slot child_columns i (slot.Bool truth) = Value-F.Bool truth
open_slot child_columns i (slot.Int number) = Value-F.Int number
open_slot child_columns i (slot.UInt number) = Value-F.UInt number
open_slot child_columns i (slot.Bytes bytes) = Value-F.Bytes bytes.now
open_slot child_columns i (slot.Text text) = Value-F.Text text.now
open_slot child_columns i (slot.List from to) = Value-F.List (values_from (λ j. first_of (child_columns j)) from (to - from))
open_slot child_columns i slot.Struct = Value-F.Struct (child_columns i)

out_slot : (child_columns : ℕ → List Value) (i : ℕ) (s : Slot) → out-Value (value_in_slot child_columns i s) ≡ open_slot child_columns i s
out_slot child_columns i slot.Null = ap out-Value (sym v.rolls-Null) ∙ out-roll-Value Value-F.Null
out_slot child_columns i (slot.Bool truth) = ap out-Value (sym (v.rolls-Bool truth)) ∙ out-roll-Value (Value-F.Bool truth)
out_slot child_columns i (slot.Int number) = ap out-Value (sym (v.rolls-Int number)) ∙ out-roll-Value (Value-F.Int number)
out_slot child_columns i (slot.UInt number) = ap out-Value (sym (v.rolls-UInt number)) ∙ out-roll-Value (Value-F.UInt number)
out_slot child_columns i (slot.Bytes bytes) = ap out-Value (sym (v.rolls-Bytes bytes.now)) ∙ out-roll-Value (Value-F.Bytes bytes.now)
out_slot child_columns i (slot.Text text) = ap out-Value (sym (v.rolls-Text text.now)) ∙ out-roll-Value (Value-F.Text text.now)
out_slot child_columns i (slot.List from to) =
    let vs = values_from (λ j. first_of (child_columns j)) from (to - from) in
    ap out-Value (sym (v.rolls-List vs)) ∙ out-roll-Value (Value-F.List vs)
out_slot child_columns i slot.Struct = ap out-Value (sym (v.rolls-Struct (child_columns i)))
    ∙ out-roll-Value (Value-F.Struct (child_columns i))

-- the JSON of what a slot shows
pub json_shown : (shape : RowShape) (f : Field) (child_columns : ℕ → List Value) (i : ℕ) (s : Slot)
    → cell_json shape f (value_in_slot child_columns i s)
    ≡ value_json shape (out-Field f).kind (map (row_field shape) (out-Field f).children) (open_slot child_columns i s)
json_shown shape f child_columns i s =
    ap (λ (p : Printed). p.json (value_in_slot child_columns i s)) (fold_out-Field Printed (field_json shape) f)
    ∙ ap (value_json shape (out-Field f).kind (map (row_field shape) (out-Field f).children)) (out_slot child_columns i s)

-- the JSON of a slot, by what it was found to hold
pub slot_json : (shape : RowShape) (f : Field) (n : Nested) (i : ℕ) (s : Slot)
    → slice_get (slot_values n) i ≡ Some (value_in_slot (row (child_columns n)) i s) → cell_json shape f (slot_value n i)
    ≡ value_json shape (out-Field f).kind (map (row_field shape) (out-Field f).children) (open_slot (row (child_columns n)) i s)
slot_json shape f n i s h =
    ap (cell_json shape f) (get_or_from_slice_get (slot_values n) i (value_in_slot (row (child_columns n)) i s) v.Null h)
    ∙ json_shown shape f (row (child_columns n)) i s

-- the text in CSV of a slot, by what it was found to hold
pub slot_csv : (d : Dialect) (f : Field) (n : Nested) (i : ℕ) (s : Slot)
    → slice_get (slot_values n) i ≡ Some (value_in_slot (row (child_columns n)) i s)
    → csv_text d f (slot_value n i) ≡ own_text d f (open_slot (row (child_columns n)) i s)
slot_csv d f n i s h =
    ap (csv_text d f) (get_or_from_slice_get (slot_values n) i (value_in_slot (row (child_columns n)) i s) v.Null h)
    ∙ ap (own_text d f) (out_slot (row (child_columns n)) i s)

-- a child has the slots of its column
slots_length : (body : List ℕ) (p : ColumnRanges) → length (slot_values (nested body p)) ≡ (column_of body p).slots
slots_length body p =
    items_length (value_of (row (part_columns body (out-ColumnRanges p).children.items)) (without_null_count (column_of body p))) 0
    (column_of body p).slots

child_value : (body : List ℕ) (p : ColumnRanges) (j : ℕ) → j < (column_of body p).slots
    → value_of (row (children_of body p)) (column_of body p) j ≡ slot_value (nested body p) j
child_value body p j m =
    let size = slots_length body p in
    let n = nested body p in
    let at = slot_shows (without_null_count (column_of body p)) body (out-ColumnRanges p).children.items n j refl
    (omega (arith, size, m)) in
    ap (λ (cs : Columns). value_of (row cs) (column_of body p) j) (children_out body p)
    ∙ sym (get_or_from_slice_get (slot_values n) j _ v.Null at)

items_same : (f g : ℕ → Value) (i n : ℕ) → ((j : ℕ) → i ≤ j → j < i + n → f j ≡ g j) → values_from f i n ≡ values_from g i n
items_same f g i zero h = refl
items_same f g i (suc n) h =
    let first = h i (omega arith) (omega arith) in
    let rest = items_same f g (i + 1) n (λ j a b. h j (omega arith) (omega arith)) in
    λ k. first k ∷ rest k

-- the first child of a list has its values
list_first : (body : List ℕ) (ps : List ColumnRanges) (child : Nested) (from to : ℕ) → slice_get (map (nested body) ps) 0 ≡ Some child
    → from ≤ to → EachTop (λ c. to ≤ c.slots) (part_columns body ps)
    → (values_from (λ j. first_of (row (part_columns body ps) j)) from (to - from) ≡ values_between child from (to - from))
    × (from + (to - from) ≤ length (slot_values child))
list_first body [] child from to e o h = absurd (none-some child e)
list_first body (p ∷ ps) child from to e o h =
    let same : nested body p ≡ child = some_same _ _ e in
    let size = slots_length body p in
    let most = h.0 in
    subst (λ (c : Nested). (values_from (λ j. first_of (row (part_columns body (p ∷ ps)) j)) from (to - from)
    ≡ values_between c from (to - from))
    × (from + (to - from) ≤ length (slot_values c))) same (
      items_same (λ j. first_of (row (part_columns body (p ∷ ps)) j)) (slot_value (nested body p)) from (to - from)
          (λ j a b. child_value body p j (omega (arith, most, o, b))),
      omega (arith, size, most, o),
    )

pub list_child : (n child : Nested) (from to : ℕ) → slice_get (nested_in n) 0 ≡ Some child → HasListSlots n from to
    → (list_values n from to ≡ values_between child from (to - from)) × (from + (to - from) ≤ length (slot_values child))
list_child n child from to e h = list_first n.body n.children child from to e h.order h.inside

-- a list without a child has nulls
pub list_nulls : (n : Nested) (from to : ℕ) → length n.children ≡ 0 → list_values n from to ≡ replicate (to - from) v.Null
list_nulls n from to e = nulls n.children e from (to - from)
  where
    nulls : (ps : List ColumnRanges) → length ps ≡ 0 → (i k : ℕ)
        → values_from (λ j. first_of (row (part_columns n.body ps) j)) i k ≡ replicate k v.Null
    nulls [] e i zero = refl
    nulls [] e i (suc k) = ap (λ (vs : List Value). v.Null ∷ vs) (nulls [] e (i + 1) k)
    nulls (p ∷ ps) e i k = absurd (omega (arith, e))

-- a child of a struct has the value in its slot
struct_at : (body : List ℕ) (ps : List ColumnRanges) (child : Nested) (i k : ℕ) → slice_get (map (nested body) ps) k ≡ Some child
    → EachTop (λ c. i < c.slots) (part_columns body ps)
    → (slice_get (row (part_columns body ps) i) k ≡ Some (slot_value child i)) × (i < length (slot_values child))
struct_at body [] child i k e h = absurd (none-some child e)
struct_at body (p ∷ ps) child i zero e h =
    let same : nested body p ≡ child = some_same _ _ e in
    let size = slots_length body p in
    let most = h.0 in
    subst (λ (c : Nested). (slice_get (row (part_columns body (p ∷ ps)) i) 0 ≡ Some (slot_value c i)) × (i < length (slot_values c))) same
    (ap (λ (x : Value). Some x) (child_value body p i most), omega (arith, size, most))
struct_at body (p ∷ ps) child i (suc k) e h = struct_at body ps child i k e h.1

pub struct_child : (n child : Nested) (i k : ℕ) → slice_get (nested_in n) k ≡ Some child → HaveSlot n i
    → (slice_get (row (child_columns n) i) k ≡ Some (slot_value child i)) × (i < length (slot_values child))
struct_child n child i k e h = struct_at n.body n.children child i k e h

-- null's JSON
pub json_null : (shape : RowShape) (f : Field) → cell_json shape f v.Null ≡ null
json_null shape f = json_shown shape f (λ _. []) 0 slot.Null

pub later_next : (n : ℕ) → nat_lt 0 (n + 1) ≡ true
later_next n = le-leb 1 (n + 1) (omega arith)

-- the value in each place of values that are all the same
pub repeated_at : (x : Value) (n i : ℕ) → i < n → slice_get (replicate n x) i ≡ Some x
repeated_at x zero i l = absurd (omega arith)
repeated_at x (suc n) zero l = refl
repeated_at x (suc n) (suc i) l = repeated_at x n i (omega arith)

-- after so many slots there are none of them
pub slots_done : (n : Nested) (from count i : ℕ) → count ≤ i → drop i (values_between n from count) ≡ []
slots_done n from count i h =
    drop_all i (values_between n from count) (let size = items_length (slot_value n) from count in omega (arith, size, h))

-- after the children of a struct it has no values
pub children_done : (n : Nested) (slot i : ℕ) → length n.children ≤ i → drop i (row (child_columns n) slot) ≡ []
children_done n slot i h = drop_all i (row (child_columns n) slot) (let size = row_length n.body n.children slot in omega (arith, size, h))
