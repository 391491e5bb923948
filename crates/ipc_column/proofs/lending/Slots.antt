-- Slots, and the slots of the children that belong to them.
use Rattle.std.proofs.Common.{◌≡◌, ◌∙◌, refl, sym, ap, subst, ℕ, zero, suc, ◌+◌, ◌*◌, ◌<◌, ◌≤◌, Bool, true, false, List, [], ◌∷◌}
use Rattle.std.proofs.Common.{length, get_or, arith, le-leb, Some, nat_le}
use Rattle.std.specs.Prelude.{◌&&◌, ◌||◌, ◌==◌, not, slice_get}
use Rattle.std.proofs.Math.Nat.{mul-le-mul_left}
use Rattle.std.proofs.lemmas.Bool.{false≢true, and_parts, and_from, and_right, leb-true, eqb-true}
use Rattle.ipc_model.specs.declared.value.Value.{Value}
use Rattle.ipc_model.specs.declared.value.Value.TheVariants as v
use Rattle.ipc_model.specs.declared.layout.Layout.{Layout}
use Rattle.ipc_model.specs.declared.layout.Layout.TheVariants as l
use Rattle.ipc_model.specs.Layouts.{is_texts}
use Rattle.ipc_column.specs.declared.ranges.ColumnRanges.{ColumnRanges}
use Rattle.ipc_column.specs.declared.ranges.ColumnRanges.TheViews.{out-ColumnRanges}
use Rattle.ipc_model.specs.declared.fault.Fault.{Fault}
use Rattle.ipc_model.specs.declared.fault.Fault.TheVariants as fault
use Rattle.ipc_column.specs.Columns.{Column, Columns, none, column, every, every_top}
use Rattle.ipc_column.specs.Values.{row, values_from, first_at, value_of, offset_position, child_slot, is_nested}
use Rattle.ipc_column.specs.checks.Checks.{passes, top_passes, has_bitmap, holds_values, holds_offsets, in_order, children_have_slots}
use Rattle.ipc_column.specs.checks.Checks.{are_ascending}
use Rattle.ipc_column.specs.checks.Checks.{have_slots, good, good_slot, good_below, all_pass, is_shown, PassTests}
use Rattle.ipc_column.specs.Lent.{AreSlots, HaveValues, HasValue}
use Rattle.ipc_column.specs.Views.{part_columns, column_of, children_of, one}
use Rattle.ipc_column.proofs.Rules.{of_bound, of_some, every_true, every_top_true}
use Rattle.ipc_column.proofs.visited.Shown.{of_when}
use Rattle.ipc_column.proofs.Parts.{own_column, children_out, column_is, every_at, every_top_at}
use Rattle.ipc_column.proofs.visited.Goods.{slots_at, good_within, fewer_slots, shown_is}
use Rattle.ipc_column.proofs.lending.Slices.{places}

-- a bitmap of n bits has those up to a slot
pub bitmap_front : (n i bytes : ℕ) → has_bitmap n bytes ≡ true → i < n → has_bitmap (i + 1) bytes ≡ true
bitmap_front n i bytes h l = grind arith

-- what a column's slots stand on
pub record Long (c : Column) (children : Columns) : Type 0 where
  pub bitmap : has_bitmap c.slots (length c.validity) ≡ true
  pub values : holds_values c.layout c.slots (length c.values) ≡ true
  pub offsets : holds_offsets c.layout c.slots (length c.offsets) ≡ true
  pub order : in_order c.layout c.slots c.offsets (length c.values) children ≡ true
  pub long : children_have_slots c.layout c.slots children ≡ true

pub long : (c : Column) (children : Columns) → ((why : Fault) → passes why c children ≡ true) → Long c children
long c children h =
    let p = and_parts (has_bitmap c.slots (length c.validity))
    (holds_values c.layout c.slots (length c.values) && holds_offsets c.layout c.slots (length c.offsets)) (h fault.BufferTooShort) in
    let q = and_parts (holds_values c.layout c.slots (length c.values)) (holds_offsets c.layout c.slots (length c.offsets)) p.1 in
    record { bitmap = p.0; values = q.0; offsets = q.1; order = h fault.BadOffsets; long = h fault.BadNode }

-- offsets of 32 bits, of so many slots
pub bytes_from : (n bytes : ℕ) → (n == 0 || nat_le (4 * (n + 1)) bytes) ≡ true → 0 < n → 4 * (n + 1) ≤ bytes
bytes_from n bytes h p = (of_some n _ (of_bound (4 * (n + 1)) bytes)).0 h p

pub order_from : (n : ℕ) (o : List ℕ) (b : Bool) → (n == 0 || (not (nat_le (4 * (n + 1)) (length o)) || b)) ≡ true → 0 < n
    → 4 * (n + 1) ≤ length o → b ≡ true
order_from n o b h p k = (of_some n _ (of_when _ b (of_bound (4 * (n + 1)) (length o)) (λ e. e, λ e. e))).0 h p k

-- what the slots of texts stand on
pub record TextParts (c : Column) : Type 0 where
  pub bytes : 4 * (c.slots + 1) ≤ length c.offsets
  pub order : are_ascending c.offsets c.slots (length c.values) ≡ true

pub text_parts : (c : Column) (children : Columns) → Long c children → is_texts c.layout ≡ true → 0 < c.slots → TextParts c
text_parts c children h t p = of_layout c.layout h.offsets h.order t
  where
    of_layout : (layout : Layout) → holds_offsets layout c.slots (length c.offsets) ≡ true
        → in_order layout c.slots c.offsets (length c.values) children ≡ true → is_texts layout ≡ true → TextParts c
    of_layout (l.VariableBytes true) a b t =
        let bytes = bytes_from c.slots (length c.offsets) a p in
        record { bytes = bytes; order = order_from c.slots c.offsets _ b p bytes }
    of_layout _ a b t = absurd (false≢true t)

-- the slots of the children that belong to a range of slots
pub record ChildRange (layout : Layout) (o : List ℕ) (children : Columns) (i j : ℕ) : Type 0 where
  pub order : child_slot layout o i ≤ child_slot layout o j
  pub within : have_slots (child_slot layout o j) children ≡ true

-- what the slots of lists stand on
pub record ListParts (c : Column) (children : Columns) : Type 0 where
  pub bytes : 4 * (c.slots + 1) ≤ length c.offsets
  pub order : are_ascending c.offsets c.slots (offset_position c.offsets c.slots) ≡ true
  pub within : have_slots (offset_position c.offsets c.slots) children ≡ true

pub list_parts : (c : Column) (children : Columns) → Long c children → c.layout ≡ l.Lists → 0 < c.slots → ListParts c children
list_parts c children h e p =
    let bytes = bytes_from c.slots (length c.offsets) (rw e at h.offsets) p in
    let both = and_parts (are_ascending c.offsets c.slots (offset_position c.offsets c.slots))
    (have_slots (offset_position c.offsets c.slots) children)
    (order_from c.slots c.offsets _ (rw e at h.order) p bytes) in
    record { bytes = bytes; order = both.0; within = both.1 }

pub list_range : (c : Column) (children : Columns) → ListParts c children → (i j : ℕ) → i ≤ j → j ≤ c.slots
    → ChildRange l.Lists c.offsets children i j
list_range c children h i j a b =
    let p = places c.offsets c.slots (offset_position c.offsets c.slots) i j h.order a b in
    record {
      order = p.order;
      within = fewer_slots children (offset_position c.offsets j) (offset_position c.offsets c.slots) p.last
          h.within;
    }

-- the slots of the child that lists of a fixed size hold
pub fixed_range : (o : List ℕ) (children : Columns) (size n : ℕ) → children_have_slots (l.FixedLists size) n children ≡ true → (i j : ℕ) → i
    ≤ j
    → j ≤ n → ChildRange (l.FixedLists size) o children i j
fixed_range o children size n h i j a b = record {
  order = mul-le-mul_left size a;
  within = fewer_slots children (size * j) (size * n) (mul-le-mul_left size b) h;
}

-- the children of a list or a struct have the slots that belong to its own
pub child_range : (c : Column) (children : Columns) → Long c children → is_nested c.layout ≡ true → (i j : ℕ) → i ≤ j → j ≤ c.slots
    → 0 < c.slots → ChildRange c.layout c.offsets children i j
child_range c children h n i j a b p = of_layout c.layout refl n
  where
    of_layout : (layout : Layout) → c.layout ≡ layout → is_nested layout ≡ true → ChildRange layout c.offsets children i j
    of_layout l.Lists e n = list_range c children (list_parts c children h e p) i j a b
    of_layout (l.FixedLists size) e n = fixed_range c.offsets children size c.slots (rw e at h.long) i j a b
    of_layout l.Structs e n = record { order = a; within = fewer_slots children j c.slots b (rw e at h.long) }
    of_layout _ e n = absurd (false≢true n)

-- where the slots of one column are, they are in it
pub slots_in_one : (c : Column) (children : Columns) (i j : ℕ) → AreSlots (column c children none) i j → j ≤ c.slots
slots_in_one c children i j h = leb-true j c.slots (and_parts _ _ h.within).0

pub own_in_one : (c : Column) (children : Columns) (i j : ℕ) → AreSlots (column c children none) i j
    → (why : Fault) → passes why c children ≡ true
own_in_one c children i j h why = (and_parts _ _ (h.sound why)).0

pub below_in_one : (c : Column) (children : Columns) (i j : ℕ) → AreSlots (column c children none) i j
    → (why : Fault) → every (passes why) children ≡ true
below_in_one c children i j h why = (and_parts _ _ (and_parts _ _ (h.sound why)).1).0

-- the first column and those behind it
pub slots_first : (c : Column) (children rest : Columns) (i j : ℕ) → AreSlots (column c children rest) i j
    → AreSlots (column c children none) i j × AreSlots rest i j
slots_first c children rest i j h = (
  record {
    order = h.order;
    within = and_from _ _ (and_parts _ _ h.within).0 refl;
    sound = λ why.
        let p = and_parts (passes why c children) (every (passes why) children && every (passes why) rest) (h.sound why) in
        let q = and_parts (every (passes why) children) (every (passes why) rest) p.1 in
        and_from _ _ p.0 (and_from _ _ q.0 refl);
  },
  record {
    order = h.order;
    within = (and_parts _ _ h.within).1;
    sound = λ why. (and_parts _ _ (and_parts _ _ (h.sound why)).1).1;
  },
)

-- a range within
pub slots_within : (cs : Columns) (a b i j : ℕ) → AreSlots cs a b → i ≤ j → j ≤ b → AreSlots cs i j
slots_within cs a b i j h l m = record { order = l; within = fewer_slots cs j b m h.within; sound = h.sound }

-- the children's slots that belong to a range of slots
pub slots_below : (c : Column) (children : Columns) (i j : ℕ) → AreSlots (column c children none) i j → i < j → is_nested c.layout ≡ true
    → AreSlots children (child_slot c.layout c.offsets i) (child_slot c.layout c.offsets j)
slots_below c children i j h l n =
    let m = slots_in_one c children i j h in
    let r = child_range c children (long c children (own_in_one c children i j h)) n i j h.order m (omega (arith, m, l)) in
    record { order = r.order; within = r.within; sound = below_in_one c children i j h }

-- ---- lent cells

pub items_length : (f : ℕ → Value) (i n : ℕ) → length (values_from f i n) ≡ n
items_length f i zero = refl
items_length f i (suc n) = ap (λ (k : ℕ). suc k) (items_length f (i + 1) n)

pub items_at : (f : ℕ → Value) (i n k : ℕ) → k < n → slice_get (values_from f i n) k ≡ Some (f (i + k))
items_at f i zero k l = absurd (omega arith)
items_at f i (suc n) zero l = let e : i ≡ i + 0 = omega arith in ap (λ (j : ℕ). Some (f j)) e
items_at f i (suc n) (suc k) l =
    let e : i + 1 + k ≡ i + suc k = omega arith in
    items_at f (i + 1) n k (omega arith) ∙ ap (λ (j : ℕ). Some (f j)) e

good_at : (body : List ℕ) (ps : List ColumnRanges) (a b i j : ℕ) (p : ColumnRanges) → j < length ps → p ≡ get_or ps j p → a ≤ i → i < b
    → good fault.ValueNotUtf8 (part_columns body ps) a b ≡ true → good_slot fault.ValueNotUtf8
    (good fault.ValueNotUtf8 (children_of body p))
    (column_of body p) i ≡ true
good_at body [] a b i j p l e f m h = absurd (omega arith)
good_at body (q ∷ ps) a b i zero p l e f m h = rw e (slots_at (good_slot fault.ValueNotUtf8 (good fault.ValueNotUtf8
    (children_of body q)) (column_of body q)) a b i
    (and_parts _ _ h).0 f m)
good_at body (q ∷ ps) a b i (suc j) p l e f m h = good_at body ps a b i j p (omega arith) e f m (and_parts _ _ h).1

-- one part has a value in a slot where all have
pub slot_value : (body : List ℕ) (ps : List ColumnRanges) (a b i j : ℕ) (p : ColumnRanges) → j < length ps → p ≡ get_or ps j p → a ≤ i
    → i < b → HaveValues (part_columns body ps) a b → HasValue (column_of body p) (children_of body p) i
slot_value body ps a b i j p l e f m h =
    let within = leb-true b (column_of body p).slots (every_top_at (λ c. nat_le b c.slots) body ps j p l e h.slots.within) in
    record {
      slot = record {
        within = omega (arith, within, m);
        own = λ why. (every_at (passes why) body ps j p l e (h.slots.sound why)).0;
        sound = λ why. (every_at (passes why) body ps j p l e (h.slots.sound why)).1;
      };
      good = good_at body ps a b i j p l e f m h.good;
    }

pub first_is : (body : List ℕ) (ps : List ColumnRanges) (p : ColumnRanges) (i : ℕ) → 0 < length ps → p ≡ get_or ps 0 p
    → first_at (part_columns body ps) i ≡ value_of (row (children_of body p)) (column_of body p) i
first_is body [] p i l e = absurd (omega arith)
first_is body (q ∷ ps) p i l e = rw e refl

pub part_value : (body : List ℕ) (p : ColumnRanges) (i : ℕ) → value_of (row (children_of body p)) (column_of body p) i
    ≡ value_of (row (part_columns body (out-ColumnRanges p).children.items)) (own_column body p) i
part_value body p i =
    ap (λ (c : Column). value_of (row (children_of body p)) c i) (column_is body p)
    ∙ ap (λ (cs : Columns). value_of (row cs) (own_column body p) i) (children_out body p)

-- the slots that a list of a fixed size holds have values
pub fixed_values : (children : Columns) (size n i : ℕ) → i < n → children_have_slots (l.FixedLists size) n children ≡ true
    → ((why : Fault) → every (passes why) children ≡ true) → good_below fault.ValueNotUtf8 (l.FixedLists size) []
    (good fault.ValueNotUtf8 children) [] [] i ≡ true
    → HaveValues children (size * i) (size * (i + 1))
fixed_values children size n i l h s g =
    let r = fixed_range [] children size n h i (i + 1) (omega arith) (omega arith) in
    record { slots = record { order = r.order; within = r.within; sound = s }; good = g }

-- a struct's slot has values in its children
pub struct_values : (children : Columns) (n i : ℕ) → i < n → children_have_slots l.Structs n children ≡ true
    → ((why : Fault) → every (passes why) children ≡ true) → good_below fault.ValueNotUtf8 l.Structs []
    (good fault.ValueNotUtf8 children) [] [] i ≡ true
    → HaveValues children i (i + 1)
struct_values children n i l h s g = record {
  slots = record { order = omega arith; within = fewer_slots children (i + 1) n (omega arith) h; sound = s };
  good = g;
}

have_at : (cs : Columns) (n m : ℕ) → m ≤ n → every_top (top_passes fault.BadNode n) cs ≡ true → have_slots m cs ≡ true
have_at none n m l h = refl
have_at (column c children rest) n m l h =
    let p = and_parts (c.slots == n) (every_top (top_passes fault.BadNode n) rest) h in
    let e = eqb-true c.slots n p.0 in
    and_from (nat_le m c.slots) (have_slots m rest) (le-leb m c.slots (omega (arith, e))) (have_at rest n m l p.1)

-- the slots of the rows are there
pub row_slots : (cs : Columns) (n i j : ℕ) → i ≤ j → j ≤ n → ((why : Fault) → every (passes why) cs ≡ true)
    → every_top (top_passes fault.BadNode n) cs ≡ true → AreSlots cs i j
row_slots cs n i j l m s t = record { order = l; within = have_at cs n j m t; sound = s }

-- each row of n has values
pub row_values : (cs : Columns) (n i : ℕ) → i < n → PassTests n cs → HaveValues cs i (i + 1)
row_values cs n i l h =
    let top : (why : Fault) → every_top (top_passes why n) cs ≡ true = λ why. (and_parts _ _ (and_parts _ _ (h why)).1).0 in
    let all : good fault.ValueNotUtf8 cs 0 n ≡ true = (and_parts _ _ (and_parts _ _ (h fault.ValueNotUtf8)).1).1 in
    record {
      slots = row_slots cs n i (i + 1) (omega arith) (omega arith) (λ why. (and_parts _ _ (h why)).0) (top fault.BadNode);
      good = good_within fault.ValueNotUtf8 cs 0 n i (i + 1) all (omega arith) (omega arith) (omega arith);
    }

-- a list's slots, of these offsets and children
pub list_have : (o : List ℕ) (cs : Columns) (n i size : ℕ) → i < n → holds_offsets l.Lists n (length o) ≡ true
    → in_order l.Lists n o size cs ≡ true → ((why : Fault) → every (passes why) cs ≡ true)
    → good_below fault.ValueNotUtf8 l.Lists [] (good fault.ValueNotUtf8 cs) o [] i ≡ true
    → HaveValues cs (offset_position o i) (offset_position o (i + 1))
list_have o cs n i size m a b s g =
    let bytes = bytes_from n (length o) a (omega arith) in
    let both = and_parts (are_ascending o n (offset_position o n)) (have_slots (offset_position o n) cs)
    (order_from n o _ b (omega arith) bytes) in
    let p = places o n (offset_position o n) i (i + 1) both.0 (omega arith) (omega arith) in
    record {
      slots = record {
        order = p.order;
        within = fewer_slots cs (offset_position o (i + 1)) (offset_position o n) p.last both.1;
        sound =
            s;
      };
      good = g;
    }

-- columns without a part show null
pub first_none : (body : List ℕ) (ps : List ColumnRanges) (i : ℕ) → length ps ≡ 0 → first_at (part_columns body ps) i ≡ v.Null
first_none body [] i h = refl
first_none body (p ∷ ps) i h = absurd (omega arith)

-- a part's column alone, by its fields
abbrev pub own_one : List ℕ → ColumnRanges → Columns
own_one body p = column (own_column body p) (part_columns body (out-ColumnRanges p).children.items) none

pub one_is : (body : List ℕ) (p : ColumnRanges) → one body p ≡ own_one body p
one_is body p =
    ap (λ (c : Column). column c (children_of body p) none) (column_is body p)
    ∙ ap (λ (cs : Columns). column (own_column body p) cs none) (children_out body p)

pub part_slots : (body : List ℕ) (p : ColumnRanges) (i j : ℕ) → AreSlots (one body p) i j → AreSlots (own_one body p) i j
part_slots body p i j h = subst (λ (cs : Columns). AreSlots cs i j) (one_is body p) h

pub part_long : (body : List ℕ) (p : ColumnRanges) (i j : ℕ) → AreSlots (one body p) i j
    → Long (own_column body p) (part_columns body (out-ColumnRanges p).children.items)
part_long body p i j h =
    long (own_column body p) (part_columns body (out-ColumnRanges p).children.items)
    (own_in_one (own_column body p) (part_columns body (out-ColumnRanges p).children.items) i j (part_slots body p i j h))

-- the slots of a part are at least those of a range in it
pub part_most : (body : List ℕ) (p : ColumnRanges) (i j : ℕ) → AreSlots (one body p) i j → j ≤ (out-ColumnRanges p).slots
part_most body p i j h = slots_in_one (own_column body p) (part_columns body (out-ColumnRanges p).children.items) i j
    (part_slots body p i j h)

-- a test of no top column but those of another length
pub tops_judged : (cs : Columns) (n : ℕ) → every_top (top_passes fault.BadNode n) cs ≡ true → (why : Fault)
    → every_top (top_passes why n) cs ≡ true
tops_judged cs n h fault.BadNode = h
tops_judged cs n h _ = every_top_true cs

-- all tests of columns whose rows are good
pub all_judged : (cs : Columns) (n : ℕ) → ((why : Fault) → every (passes why) cs ≡ true)
    → ((why : Fault) → every_top (top_passes why n) cs ≡ true) → ((why : Fault) → good why cs 0 n ≡ true)
    → (why : Fault) → all_pass why n cs ≡ true
all_judged cs n s t g why = and_from _ _ (s why) (and_from _ _ (t why) (sym (shown_is why n cs) ∙ g why))

-- what rows show fails its test
pub shown_fails : (why : Fault) (n : ℕ) (cs : Columns) → good why cs 0 n ≡ false → all_pass why n cs ≡ false
shown_fails why n cs h =
    and_right (every (passes why) cs) _ (and_right (every_top (top_passes why n) cs) _ (sym (shown_is why n cs) ∙ h))

-- a cause that is found in what rows show asks nothing of the columns
pub shown_asks : (why : Fault) (cs : Columns) → is_shown why ≡ true → every (passes why) cs ≡ true
shown_asks fault.ValueNotUtf8 cs e = every_true cs
shown_asks fault.BadIndex cs e = every_true cs
shown_asks _ cs e = absurd (false≢true e)

-- a bitmap of n bits has those before a slot
pub bitmap_upto : (n i bytes : ℕ) → has_bitmap n bytes ≡ true → i ≤ n → has_bitmap i bytes ≡ true
bitmap_upto n i bytes h l = grind arith
