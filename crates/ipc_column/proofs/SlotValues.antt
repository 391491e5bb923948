-- The values in the slots of a column, and in those of its children.
use Rattle.std.proofs.Common.{◌≡◌, ◌∙◌, refl, sym, ap, ℕ, zero, suc, ◌<◌, ◌≤◌, Bool, true, List, [], ◌∷◌, length, map}
use Rattle.std.proofs.Common.{get_or, Option, Some, None, arith}
use Rattle.std.proofs.lemmas.Option.{get_or_from_slice_get, none-some}
use Rattle.std.specs.Prelude.{ℤ, slice_get}
use Rattle.ipc_model.specs.declared.layout.Layout.{Layout}
use Rattle.ipc_model.specs.declared.layout.Layout.TheVariants as l
use Rattle.ipc_model.specs.declared.schema.IntBits.{IntBits}
use Rattle.ipc_model.specs.declared.value.Value.{Value, out-Value}
use Rattle.ipc_model.specs.declared.value.Value.TheVariants.{Null}
use Rattle.ipc_model.specs.declared.value.Value.TheVariants as v
use Rattle.ipc_column.specs.Columns.{Columns, EachTop}
use Rattle.ipc_column.specs.Lending.{MarksNulls}
use Rattle.ipc_column.specs.Nested.{Nested, child_columns, slot_values}
use Rattle.ipc_column.specs.Slots.{is_null, nested, nested_in}
use Rattle.ipc_column.specs.Values.{first_of, is_valid, row, value_of}
use Rattle.ipc_column.specs.Views.{children_of, column_of, part_columns}
use Rattle.ipc_column.specs.declared.ranges.ColumnRanges.{ColumnRanges}
use Rattle.ipc_column.proofs.Found.{items_first}
use Rattle.ipc_column.proofs.Parts.{children_out}
use Rattle.ipc_column.proofs.lending.Slots.{items_length}
use Rattle.ipc_column.proofs.visited.Leads.{null_slot}

-- ---- slots

-- how many slots there are
pub slot_count : (s : Nested) → length (slot_values s) ≡ s.column.slots
slot_count s = items_length (value_of (row (child_columns s)) s.column) 0 s.column.slots

-- the value of a slot
pub slot_is : (s : Nested) (i : ℕ) → i < length (slot_values s)
    → get_or (slot_values s) i Null ≡ value_of (row (child_columns s)) s.column i
slot_is s i m =
    let count = slot_count s in
    get_or_from_slice_get (slot_values s) i (value_of (row (child_columns s)) s.column i) Null
    (items_first (value_of (row (child_columns s)) s.column) s.column.slots i (omega (arith, m, count)))

-- the layouts whose bitmap says which slots are null
abbrev pub TellsNulls : Layout → Type 0
TellsNulls layout = (layout ≡ l.Null → ⊥) × ((bits : IntBits) (signed : Bool) (id : ℤ) → layout ≡ l.Indices bits signed id → ⊥)

-- the bitmap of a column says which slots are null
pub column_marked : (s : Nested) → TellsNulls s.column.layout → MarksNulls s.column.validity (slot_values s)
column_marked s tells = record {
  each = λ i m.
      null_slot (row (child_columns s)) s.column i (is_valid s.column.validity i) refl tells.0 tells.1
      ∙ sym (ap is_null (slot_is s i m));
}

-- a value that is null
pub null_only : (value : Value) → is_null value ≡ true → value ≡ Null
unfolding out-Value denote.Hole.Carrier.out
null_only v.Null e = refl
null_only value e = absurd (cc)

-- ---- children

-- the value of a slot of a child, as its column's value
abbrev pub child_value : Nested → ℕ → Value
child_value n j = value_of (row (child_columns n)) n.column j

part_value : (body : List ℕ) (p : ColumnRanges) (j : ℕ)
    → value_of (row (children_of body p)) (column_of body p) j ≡ child_value (nested body p) j
part_value body p j = ap (λ (cs : Columns). value_of (row cs) (column_of body p) j) (children_out body p)

pub some_same : (a b : Nested) → Some a ≡ Some b → a ≡ b
some_same a b h = ap (λ (o : Option Nested). out o) h
  where
    out : Option Nested → Nested
    out (Some x) = x
    out None = a

-- the value of a slot in the first column is that of the first child
pub first_value : (s child : Nested) (j : ℕ) → slice_get (nested_in s) 0 ≡ Some child
    → first_of (row (child_columns s) j) ≡ child_value child j
first_value s child j e = first s.children e
  where
    first : (ps : List ColumnRanges) → slice_get (map (nested s.body) ps) 0 ≡ Some child
        → first_of (row (part_columns s.body ps) j) ≡ child_value child j
    first [] e = absurd (none-some child e)
    first (p ∷ ps) e = part_value s.body p j ∙ ap (λ (n : Nested). child_value n j) (some_same (nested s.body p) child e)

-- the value of a slot in column k is that of child k
pub cell_value : (s child : Nested) (k j : ℕ) → slice_get (nested_in s) k ≡ Some child
    → get_or (row (child_columns s) j) k Null ≡ child_value child j
cell_value s child k j e = at s.children k e
  where
    at : (ps : List ColumnRanges) (k : ℕ) → slice_get (map (nested s.body) ps) k ≡ Some child
        → get_or (row (part_columns s.body ps) j) k Null ≡ child_value child j
    at [] k e = absurd (none-some child e)
    at (p ∷ ps) zero e = part_value s.body p j ∙ ap (λ (n : Nested). child_value n j) (some_same (nested s.body p) child e)
    at (p ∷ ps) (suc k) e = at ps k e

-- the first child has the slots that the first column has
pub first_slots : (s child : Nested) (k : ℕ) → slice_get (nested_in s) 0 ≡ Some child
    → EachTop (λ c. k ≤ c.slots) (child_columns s) → k ≤ length (slot_values child)
first_slots s child k e h = let count = slot_count child in let most = first s.children e h in omega (arith, count, most)
  where
    first : (ps : List ColumnRanges) → slice_get (map (nested s.body) ps) 0 ≡ Some child
        → EachTop (λ c. k ≤ c.slots) (part_columns s.body ps) → k ≤ child.column.slots
    first [] e h = absurd (none-some child e)
    first (p ∷ ps) e h = rw (← some_same (nested s.body p) child e) h.0
