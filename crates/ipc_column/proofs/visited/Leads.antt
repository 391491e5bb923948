-- The slots of the children that a slot leads to.
use Rattle.std.proofs.Common.{◌≡◌, ◌∙◌, refl, sym, ap, ℕ, zero, suc, ◌+◌, ◌*◌, get_or, Some, ◌<◌, ◌≤◌, Bool, true, false}
use Rattle.std.proofs.Common.{List, [], ◌∷◌, length, arith, subst, cond}
use Rattle.std.specs.Prelude.{slice_get, map, not, ℤ}
use Rattle.std.proofs.Math.Nat.{mul-le-mul_left}
use Rattle.std.proofs.lemmas.Bool.{and_parts}
use Rattle.std.proofs.lemmas.Option.{same_Some}
use Rattle.ipc_model.specs.declared.value.Value.{Value}
use Rattle.ipc_model.specs.declared.value.Value.TheVariants as v
use Rattle.ipc_model.specs.declared.layout.Layout.{Layout}
use Rattle.ipc_model.specs.declared.layout.Layout.TheVariants as l
use Rattle.ipc_column.specs.declared.ranges.ColumnRanges.{ColumnRanges}
use Rattle.ipc_column.specs.declared.ranges.ColumnRanges.TheViews.{out-ColumnRanges}
use Rattle.ipc_model.specs.declared.fault.Fault.{Fault}
use Rattle.ipc_model.specs.declared.fault.Fault.TheVariants as fault
use Rattle.ipc_model.specs.declared.schema.IntBits.{IntBits}
use Rattle.ipc_column.specs.Columns.{Column, Columns, none, column, EachTop, every}
use Rattle.ipc_column.specs.Values.{is_valid, own_value, offset_position, row, value_of}
use Rattle.ipc_column.specs.checks.Checks.{are_ascending, children_have_slots, have_slots, holds_offsets, in_order, passes}
use Rattle.ipc_column.specs.checks.Checks.{good, good_below, good_slot}
use Rattle.ipc_column.specs.checks.Rules.{HasUtf8Texts}
use Rattle.ipc_column.specs.Lent.{HasValue, HoldSlots, AreFound, column_of_buffers, values_in, without_null_count}
use Rattle.ipc_column.specs.Nested.{Nested, child_columns, only_column, slot_values}
use Rattle.ipc_column.specs.Slots.{HasChildSlots, IsLeafSlot, RefersToValues, is_null, nested, value_in_slot}
use Rattle.ipc_column.specs.declared.slot_view.Slot.{Slot}
use Rattle.ipc_column.specs.declared.slot_view.Slot.TheVariants as slot
use Rattle.ipc_column.specs.Views.{part_columns, column_of, children_of}
use Rattle.ipc_column.specs.Spans.{span_bytes}
use Rattle.ipc_column.proofs.Found.{found_is, items_first}
use Rattle.ipc_column.proofs.Parts.{children_out, every_at}
use Rattle.ipc_column.proofs.lending.FixedLists.{slots_any}
use Rattle.ipc_column.proofs.visited.Goods.{fewer_slots, good_one, slots_from}
use Rattle.ipc_column.proofs.Rules.{of_have_slots}
use Rattle.ipc_column.proofs.visited.Shown.{of_good, slot_texts}
use Rattle.ipc_column.proofs.lending.Slices.{places}
use Rattle.ipc_column.proofs.lending.Slots.{bytes_from, items_length, order_from, long}

-- whether offsets are in order doesn't depend on the body
pub order_any : (layout : Layout) (n : ℕ) (o : List ℕ) (size : ℕ) (body : List ℕ) (ps : List ColumnRanges)
    → in_order layout n o size (part_columns body ps) ≡ true → (other : List ℕ) → in_order layout n o size (part_columns other ps) ≡ true
order_any l.Lists n o size body ps h other = rw (slots_any (offset_position o n) other body ps) h
order_any (l.VariableBytes utf8) n o size body ps h other = h
order_any l.Null n o size body ps h other = refl
order_any l.Bits n o size body ps h other = refl
order_any (l.Numbers bits signed) n o size body ps h other = refl
order_any (l.FixedBytes width) n o size body ps h other = refl
order_any (l.FixedLists width) n o size body ps h other = refl
order_any l.Structs n o size body ps h other = refl
order_any (l.Indices bits signed id) n o size body ps h other = refl

-- nor does whether the children are long enough
pub long_any : (layout : Layout) (n : ℕ) (body : List ℕ) (ps : List ColumnRanges) → children_have_slots layout n (part_columns body ps)
    ≡ true
    → (other : List ℕ) → children_have_slots layout n (part_columns other ps) ≡ true
long_any l.Structs n body ps h other = rw (slots_any n other body ps) h
long_any (l.FixedLists size) n body ps h other = rw (slots_any (size * n) other body ps) h
long_any l.Lists n body ps h other = refl
long_any (l.VariableBytes utf8) n body ps h other = refl
long_any l.Null n body ps h other = refl
long_any l.Bits n body ps h other = refl
long_any (l.Numbers bits signed) n body ps h other = refl
long_any (l.FixedBytes width) n body ps h other = refl
long_any (l.Indices bits signed id) n body ps h other = refl

-- the offsets of texts and bytes are in order
pub bytes_rise : (utf8 : Bool) (o : List ℕ) (cs : Columns) (n i size : ℕ) → i < n
    → holds_offsets (l.VariableBytes utf8) n (length o) ≡ true → in_order (l.VariableBytes utf8) n o size cs ≡ true
    → are_ascending o n size ≡ true
bytes_rise utf8 o cs n i size m a b =
    let bytes = bytes_from n (length o) a (omega arith) in
    order_from n o _ b (omega arith) bytes

-- the slots of a list are slots of the children
pub list_leads : (o : List ℕ) (cs : Columns) (n i size : ℕ) → i < n → holds_offsets l.Lists n (length o) ≡ true
    → in_order l.Lists n o size cs ≡ true → (offset_position o i ≤ offset_position o (i + 1))
    × EachTop (λ c. offset_position o (i + 1) ≤ c.slots) cs
list_leads o cs n i size m a b =
    let bytes = bytes_from n (length o) a (omega arith) in
    let both = and_parts (are_ascending o n (offset_position o n)) (have_slots (offset_position o n) cs)
    (order_from n o _ b (omega arith) bytes) in
    let p = places o n (offset_position o n) i (i + 1) both.0 (omega arith) (omega arith) in (
      p.order,
      (of_have_slots (offset_position o (i + 1)) cs).0 (fewer_slots cs (offset_position o (i + 1)) (offset_position o n) p.last
          both.1),
    )

-- and so are those of a list of a fixed size, from where they begin
pub fixed_leads : (body : List ℕ) (ps : List ColumnRanges) (size n i first : ℕ) → i < n
    → children_have_slots (l.FixedLists size) n (part_columns body ps) ≡ true → (0 < length ps → first ≡ size * i)
    → (first ≤ first + size) × EachTop (λ c. first + size ≤ c.slots) (part_columns body ps)
fixed_leads body [] size n i first m h e = (omega arith, tt)
fixed_leads body (p ∷ ps) size n i first m h e =
    let start = e (omega arith) in
    let same : size * (i + 1) ≡ first + size = omega (arith, start) in (
      omega arith,
      subst (λ (k : ℕ). EachTop (λ c. k ≤ c.slots) (part_columns body (p ∷ ps))) same
          ((of_have_slots (size * (i + 1)) (part_columns body (p ∷ ps))).0
          (fewer_slots (part_columns body (p ∷ ps)) (size * (i + 1)) (size * n)
          (mul-le-mul_left size (let k : i + 1 ≤ n = omega arith in k)) h)),
    )

-- a fact of each column, of what follows from it
top_from : (P Q : Column → Type 0) → ((c : Column) → P c → Q c) → (cs : Columns) → EachTop P cs → EachTop Q cs
top_from P Q f none h = tt
top_from P Q f (column c children rest) h = (f c h.0, top_from P Q f rest h.1)

-- the slot of a struct is one of each child
pub struct_leads : (cs : Columns) (n i : ℕ) → i < n → children_have_slots l.Structs n cs ≡ true → EachTop (λ c. i < c.slots) cs
struct_leads cs n i m h =
    top_from (λ c. n ≤ c.slots) (λ c. i < c.slots) (λ c k. omega (arith, k, m)) cs ((of_have_slots n cs).0 h)

-- nothing stands in the slots of columns without values
pub nothing_shown : (below : ℕ → List Value) (c : Column) (i : ℕ) → c.layout ≡ l.Null → is_null (value_of below c i) ≡ true
nothing_shown below c i e = rw e (either (is_valid c.validity i))
  where
    either : (b : Bool) → is_null (cond b v.Null v.Null) ≡ true
    either true = refl
    either false = refl

-- a valid slot is null only where nothing can stand in it, or an index of null or of no value
pub nothing_null : (layout : Layout) (d : List Value) (below : ℕ → List Value) (o w : List ℕ) (i : ℕ) → ¬ (layout ≡ l.Null)
    → ((bits : IntBits) (signed : Bool) (id : ℤ) → ¬ (layout ≡ l.Indices bits signed id))
    → is_null (own_value layout d below o w i) ≡ false
nothing_null l.Null d below o w i a b = absurd (a refl)
nothing_null (l.Indices bits signed id) d below o w i a b = absurd (b bits signed id refl)
nothing_null l.Bits d below o w i a b = refl
nothing_null (l.Numbers bits true) d below o w i a b = refl
nothing_null (l.Numbers bits false) d below o w i a b = refl
nothing_null (l.FixedBytes width) d below o w i a b = refl
nothing_null (l.VariableBytes true) d below o w i a b = refl
nothing_null (l.VariableBytes false) d below o w i a b = refl
nothing_null l.Lists d below o w i a b = refl
nothing_null (l.FixedLists size) d below o w i a b = refl
nothing_null l.Structs d below o w i a b = refl

-- a slot of such a column is null where it isn't valid
pub null_slot : (below : ℕ → List Value) (c : Column) (i : ℕ) (b : Bool) → b ≡ is_valid c.validity i → ¬ (c.layout ≡ l.Null)
    → ((bits : IntBits) (signed : Bool) (id : ℤ) → ¬ (c.layout ≡ l.Indices bits signed id)) → not b ≡ is_null (value_of below c i)
null_slot below c i b e m n = rw (← e) (either b)
  where
    either : (b : Bool) → not b ≡ is_null (cond b (own_value c.layout c.dictionary below c.offsets c.values i) v.Null)
    either true = sym (nothing_null c.layout c.dictionary below c.offsets c.values i m n)
    either false = refl

-- the columns of the children one by one
pub nested_at : (body : List ℕ) (ps : List ColumnRanges) (i : ℕ) (p : ColumnRanges) → i < length ps → p ≡ get_or ps i p
    → slice_get (map (nested body) ps) i ≡ Some (nested body p)
nested_at body [] i p m e = absurd (omega arith)
nested_at body (q ∷ ps) zero p m e = rw e refl
nested_at body (q ∷ ps) (suc i) p m e = nested_at body ps i p (omega arith) e

-- each part's buffers have what its slots need where all do
pub child_found : (body : List ℕ) (ps : List ColumnRanges) (i : ℕ) (p : ColumnRanges) → i < length ps → p ≡ get_or ps i p
    → ((why : Fault) → every (passes why) (part_columns body ps) ≡ true) → AreFound (column_of body p) (children_of body p)
child_found body ps i p m e h =
    let own = long (column_of body p) (children_of body p) (λ why. (every_at (passes why) body ps i p m e (h why)).0) in
    record {
      bitmap = own.bitmap;
      values = own.values;
      offsets = own.offsets;
      order = own.order;
      long = own.long;
      sound = λ why. (every_at (passes why) body ps i p m e (h why)).1;
    }

-- by the bytes that were found
pub found_again : (body : List ℕ) (p : ColumnRanges) (v o w : List ℕ) (d : List Value) → v ≡ span_bytes body (out-ColumnRanges p).validity
    → o ≡ span_bytes body (out-ColumnRanges p).offsets → w ≡ span_bytes body (out-ColumnRanges p).values
    → d ≡ (out-ColumnRanges p).dictionary
    → AreFound (column_of body p) (children_of body p)
    → AreFound (column_of_buffers (out-ColumnRanges p).layout (out-ColumnRanges p).slots v o w d)
    (part_columns body (out-ColumnRanges p).children.items)
found_again body p v o w d ev eo ew ed h = found_is body p v o w d ev eo ew ed AreFound (record {
  bitmap = h.bitmap;
  values = h.values;
  offsets = h.offsets;
  order = h.order;
  long = h.long;
  sound = h.sound;
})

-- buffers whose slots are good have what these need
pub found_from : (c : Column) (cs : Columns) → HoldSlots c cs → AreFound c cs
found_from c cs h = record {
  bitmap = h.bitmap;
  values = h.values;
  offsets = h.offsets;
  order = h.order;
  long = h.long;
  sound = h.sound;
}

-- a slot of a column that is seen so
pub slot_inside : (c : Column) (body : List ℕ) (ps : List ColumnRanges) (n : Nested) (i : ℕ)
    → record { column = c; body = body; children = ps } ≡ n → i < length (slot_values n) → i < c.slots
slot_inside c body ps n i e m =
    subst (λ (k : ℕ). i < k)
    (ap (λ (n : Nested). length (slot_values n)) (sym e) ∙ items_length (value_of (row (part_columns body ps)) c) 0 c.slots) m

-- and its value
pub slot_shows : (c : Column) (body : List ℕ) (ps : List ColumnRanges) (n : Nested) (i : ℕ)
    → record { column = c; body = body; children = ps } ≡ n → i < length (slot_values n)
    → slice_get (slot_values n) i ≡ Some (value_of (row (part_columns body ps)) c i)
slot_shows c body ps n i e m =
    ap (λ (n : Nested). slice_get (slot_values n) i) (sym e)
    ∙ items_first (value_of (row (part_columns body ps)) c) c.slots i (slot_inside c body ps n i e m)

-- the texts that the slots of a column lead to are UTF-8
texts_of : (c : Column) (cs : Columns) → HoldSlots c cs → (i : ℕ) → i < c.slots → HasUtf8Texts (column c cs none) i
texts_of c cs h i m =
    (of_good (column c cs none) 0 c.slots).0
    (good_one fault.ValueNotUtf8 c cs 0 c.slots ∙ slots_from (good_slot fault.ValueNotUtf8 (good fault.ValueNotUtf8 cs) c) 0 c.slots
    (λ k a b. h.good k b)) i (omega arith) m

pub slots_spell : (c : Column) (body : List ℕ) (ps : List ColumnRanges) (n : Nested) (vs : List Value) → n.column ≡ c → n.body ≡ body
    → n.children ≡ ps → HoldSlots c (part_columns body ps) → values_in c (part_columns body ps) ≡ vs → (i : ℕ) → i < length vs
    → HasUtf8Texts (only_column n) i
slots_spell c body ps n vs ec eb ep h e i m =
    let inside : i < c.slots = subst (λ (k : ℕ). i < k)
    (ap (λ (xs : List Value). length xs) (sym e) ∙ items_length (value_of (row (part_columns body ps)) c) 0 c.slots) m in
    subst (λ (d : Column). HasUtf8Texts (column d (part_columns n.body n.children) none) i) (sym ec)
    (subst (λ (b : List ℕ). HasUtf8Texts (column c (part_columns b n.children) none) i) (sym eb)
    (subst (λ (q : List ColumnRanges). HasUtf8Texts (column c (part_columns body q) none) i) (sym ep)
    (texts_of c (part_columns body ps) h i inside)))

-- a part's buffers have what its slots need where one of these has a value
pub value_found : (c : Column) (cs : Columns) (i : ℕ) → HasValue c cs i → AreFound c cs
value_found c cs i h =
    let own = long c cs h.slot.own in
    record {
      bitmap = own.bitmap;
      values = own.values;
      offsets = own.offsets;
      order = own.order;
      long = own.long;
      sound = h.slot.sound;
    }

module _ (body : List ℕ) (p : ColumnRanges) (n : Nested) (i : ℕ) (is : n ≡ nested body p)
    (has : HasValue (column_of body p) (children_of body p) i) where
  pub held_inside : i < length (slot_values n)
  held_inside =
      let size : length (slot_values (nested body p)) ≡ (column_of body p).slots =
      items_length (value_of (row (part_columns body (out-ColumnRanges p).children.items)) (column_of body p)) 0 (column_of body p).slots in
      subst (λ (n : Nested). i < length (slot_values n)) (sym is) (subst (λ (k : ℕ). i < k) (sym size) has.slot.within)

  -- what the slot holds has its value
  pub held_value : (s : Slot) → slice_get (slot_values n) i ≡ Some (value_in_slot (row (child_columns n)) i s)
      → value_in_slot (row (children_of body p)) i s ≡ value_of (row (children_of body p)) (column_of body p) i
  held_value s h =
      subst (λ (cs : Columns). value_in_slot (row cs) i s ≡ value_of (row cs) (column_of body p) i) (sym (children_out body p))
      (same_Some _ _
      (sym (subst (λ (n : Nested). slice_get (slot_values n) i ≡ Some (value_in_slot (row (child_columns n)) i s)) is h)
      ∙ items_first (value_of (row (part_columns body (out-ColumnRanges p).children.items)) (column_of body p))
      (column_of body p).slots i has.slot.within))

  pub held_texts : HasUtf8Texts (only_column n) i
  held_texts =
      subst (λ (n : Nested). HasUtf8Texts (only_column n) i) (sym is)
      (subst (λ (cs : Columns). HasUtf8Texts (column (without_null_count (column_of body p)) cs none) i) (children_out body p)
      (slot_texts (without_null_count (column_of body p)) (children_of body p) i has.good))

  pub held_shown : (s : Slot) → RefersToValues (child_columns n) i s → RefersToValues (children_of body p) i s
  held_shown s h =
      subst (λ (cs : Columns). RefersToValues cs i s) (sym (children_out body p))
      (subst (λ (n : Nested). RefersToValues (child_columns n) i s) is h)

-- a slot that refers to none of the children is like one of any column
pub leaf_inside : (cs : Columns) (i : ℕ) (s : Slot) → IsLeafSlot s → HasChildSlots cs i s
leaf_inside cs i slot.Null h = tt
leaf_inside cs i (slot.Bool truth) h = tt
leaf_inside cs i (slot.Int number) h = tt
leaf_inside cs i (slot.UInt number) h = tt
leaf_inside cs i (slot.Bytes bytes) h = tt
leaf_inside cs i (slot.Text bytes) h = tt
leaf_inside cs i (slot.List from to) h = absurd h
leaf_inside cs i slot.Struct h = absurd h

pub leaf_shown : (cs : Columns) (i : ℕ) (s : Slot) → IsLeafSlot s → RefersToValues cs i s
leaf_shown cs i slot.Null h = tt
leaf_shown cs i (slot.Bool truth) h = tt
leaf_shown cs i (slot.Int number) h = tt
leaf_shown cs i (slot.UInt number) h = tt
leaf_shown cs i (slot.Bytes bytes) h = tt
leaf_shown cs i (slot.Text bytes) h = h
leaf_shown cs i (slot.List from to) h = absurd h
leaf_shown cs i slot.Struct h = absurd h

-- offsets that are in order beside some children are so without them, unless they are those of lists
pub leaf_order : (layout : Layout) (n : ℕ) (o : List ℕ) (size : ℕ) (cs : Columns) → ¬ (layout ≡ l.Lists)
    → in_order layout n o size cs ≡ true → in_order layout n o size none ≡ true
leaf_order l.Lists n o size cs not h = absurd (not refl)
leaf_order (l.VariableBytes utf8) n o size cs not h = h
leaf_order l.Null n o size cs not h = refl
leaf_order l.Bits n o size cs not h = refl
leaf_order (l.Numbers bits signed) n o size cs not h = refl
leaf_order (l.FixedBytes width) n o size cs not h = refl
leaf_order (l.FixedLists width) n o size cs not h = refl
leaf_order l.Structs n o size cs not h = refl
leaf_order (l.Indices bits signed id) n o size cs not h = refl

-- what is tested of a slot without children or dictionary
pub leaf_good : (layout : Layout) (d : List Value) (below : ℕ → ℕ → Bool) (o w : List ℕ) (i : ℕ)
    → good_below fault.ValueNotUtf8 layout d below o w i ≡ true
    → good_below fault.ValueNotUtf8 layout [] (good fault.ValueNotUtf8 none) o w i ≡ true
leaf_good (l.VariableBytes true) d below o w i h = h
leaf_good (l.VariableBytes false) d below o w i h = refl
leaf_good l.Lists d below o w i h = refl
leaf_good (l.FixedLists size) d below o w i h = refl
leaf_good l.Structs d below o w i h = refl
leaf_good (l.Indices bits signed id) d below o w i h = refl
leaf_good l.Null d below o w i h = refl
leaf_good l.Bits d below o w i h = refl
leaf_good (l.Numbers bits signed) d below o w i h = refl
leaf_good (l.FixedBytes width) d below o w i h = refl
