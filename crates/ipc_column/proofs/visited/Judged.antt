-- What the visits of a part answer.
use Rattle.std.proofs.Common.{◌≡◌, ◌∙◌, sym, ap, refl, ℕ, ◌+◌, ◌-◌, ◌*◌, ◌<◌, Bool, true, false, List, length, Result, Ok, Err}
use Rattle.std.specs.Prelude.{◌||◌, not}
use Rattle.ipc_model.specs.declared.layout.Layout.TheVariants as l
use Rattle.ipc_model.specs.Layouts.{needs_slot_checks}
use Rattle.ipc_model.specs.declared.fault.Fault.{Fault}
use Rattle.ipc_column.specs.declared.ranges.ColumnRanges.{ColumnRanges}
use Rattle.ipc_column.specs.declared.ranges.ColumnRanges.TheViews.{out-ColumnRanges}
use Rattle.ipc_column.specs.checks.Checks.{Judges, good, good_below, good_slot, range_good}
use Rattle.ipc_column.specs.Columns.{Column}
use Rattle.ipc_column.specs.Lent.{AreSlots}
use Rattle.ipc_column.specs.Values.{is_valid, offset_position}
use Rattle.ipc_column.specs.Views.{part_columns, column_of, children_of, one}
use Rattle.ipc_column.proofs.visited.Goods.{slot_range}
use Rattle.ipc_column.proofs.Parts.{own_column, column_is}
use Rattle.ipc_column.proofs.visited.Visited.{part_back, list_good, fixed_good_between, struct_good, whole_part}

-- the same tests, in other words
pub judges_same : {X : Type 0} (r : Result X Fault) (f g : Fault → Bool) → ((why : Fault) → f why ≡ g why) → Judges r f → Judges r g
judges_same (Ok x) f g e h = λ why. sym (e why) ∙ h why
judges_same (Err d) f g e h = sym (e d) ∙ h

-- what is below a part's slots
abbrev pub leads : List ℕ → ColumnRanges → ℕ → ℕ → Fault → Bool
leads body p i j why = range_good (column_of body p).layout (good why (children_of body p)) (column_of body p).offsets i j

-- in the slots that its lists hold
pub list_judged : {X : Type 0} (r : Result X Fault) (body : List ℕ) (p : ColumnRanges) (i j : ℕ) → (out-ColumnRanges p).layout ≡ l.Lists
    → Judges r (λ why. good why (part_columns body (out-ColumnRanges p).children.items) (offset_position (own_column body p).offsets i)
    (offset_position (own_column body p).offsets j)) → Judges r (leads body p i j)
list_judged r body p i j e h =
    judges_same r (λ why. good why (part_columns body (out-ColumnRanges p).children.items) (offset_position (own_column body p).offsets i)
    (offset_position (own_column body p).offsets j)) (leads body p i j) (λ why. sym (list_good why body p i j e)) h

-- in those of lists of a fixed size
pub fixed_judged : {X : Type 0} (r : Result X Fault) (body : List ℕ) (p : ColumnRanges) (i j size first last : ℕ)
    → (out-ColumnRanges p).layout ≡ l.FixedLists size → i < j
    → (0 < length (out-ColumnRanges p).children.items → first ≡ size * i)
    → (0 < length (out-ColumnRanges p).children.items → last ≡ size * (j - 1))
    → Judges r (λ why. good why (part_columns body (out-ColumnRanges p).children.items) first (last + size)) → Judges r (leads body p i j)
fixed_judged r body p i j size first last e m f g h =
    judges_same r (λ why. good why (part_columns body (out-ColumnRanges p).children.items) first (last + size)) (leads body p i j)
    (λ why. fixed_good_between why body p i j size first last e m f g) h

-- in the same slots of each child of structs
pub struct_judged : {X : Type 0} (r : Result X Fault) (body : List ℕ) (p : ColumnRanges) (i j : ℕ) → (out-ColumnRanges p).layout ≡ l.Structs
    → Judges r (λ why. good why (part_columns body (out-ColumnRanges p).children.items) i j) → Judges r (leads body p i j)
struct_judged r body p i j e h =
    judges_same r (λ why. good why (part_columns body (out-ColumnRanges p).children.items) i j) (leads body p i j)
    (λ why. sym (struct_good why body p i j e)) h

-- a null slot
pub slot_null : (body : List ℕ) (p : ColumnRanges) (i : ℕ) → is_valid (own_column body p).validity i ≡ false
    → (why : Fault) → good_slot why (good why (children_of body p)) (column_of body p) i ≡ true
slot_null body p i e why = part_back (λ c cs. good_slot why (good why cs) c i ≡ true) body p (rw e refl)

-- a valid slot is what it leads to
pub slot_judged : {X : Type 0} (r : Result X Fault) (body : List ℕ) (p : ColumnRanges) (i : ℕ)
    → is_valid (own_column body p).validity i ≡ true → needs_slot_checks (column_of body p).layout ≡ false
    → Judges r (leads body p i (i + 1)) → Judges r (λ why. good_slot why (good why (children_of body p)) (column_of body p) i)
slot_judged r body p i v t h =
    judges_same r (leads body p i (i + 1)) (λ why. good_slot why (good why (children_of body p)) (column_of body p) i)
    (λ why. slot_range why (column_of body p).layout (column_of body p).dictionary (good why (children_of body p))
    (column_of body p).offsets (column_of body p).values i t ∙ sym (ap (λ (b : Bool). not b || good_below why (column_of body p).layout
    (column_of body p).dictionary (good why (children_of body p)) (column_of body p).offsets (column_of body p).values i) valid)) h
  where
    valid : is_valid (column_of body p).validity i ≡ true
    valid = ap (λ (c : Column). is_valid c.validity i) (column_is body p) ∙ v

-- without a bitmap, what a part's slots lead to is what they are
pub whole_judged : {X : Type 0} (r : Result X Fault) (body : List ℕ) (p : ColumnRanges) (i j : ℕ) → AreSlots (one body p) i j
    → needs_slot_checks (out-ColumnRanges p).layout ≡ false → length (own_column body p).validity ≡ 0
    → Judges r (leads body p i j) → Judges r (λ why. good why (one body p) i j)
whole_judged r body p i j s t v h =
    judges_same r (leads body p i j) (λ why. good why (one body p) i j) (λ why. whole_part why body p i j s t v) h
