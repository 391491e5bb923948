-- Lists and structs that use all slots of their children.
use Rattle.std.proofs.Common.{◌≡◌, ◌∙◌, refl, sym, ap, subst, ℕ, zero, suc, ◌+◌, ◌-◌, ◌*◌, ◌<◌, ◌≤◌, Bool, true, false, cond, List, []}
use Rattle.std.proofs.Common.{◌∷◌, ◌++◌, length, map, get_or, take, replicate, Some, arith, inl, inr}
use Rattle.std.proofs.lemmas.Bool.{and_parts, false≢true, cases_lt}
use Rattle.std.proofs.lemmas.List.{append-nil, take_all}
use Rattle.std.proofs.Math.Nat.{mul-le-mul_left}
use Rattle.std.proofs.lemmas.Option.{none-some}
use Rattle.std.specs.List.{AllByRecursion}
use Rattle.std.specs.Prelude.{slice_get, ◌&&◌, not}
use Rattle.ipc_model.specs.Limits.{max_data}
use Rattle.ipc_model.specs.declared.layout.Layout.{Layout}
use Rattle.ipc_model.specs.declared.layout.Layout.TheVariants as l
use Rattle.ipc_model.specs.declared.value.Value.{Value, out-Value}
use Rattle.ipc_model.specs.declared.value.Value.TheOpen.{Value-F}
use Rattle.ipc_model.specs.declared.value.Value.TheVariants.{Null}
use Rattle.ipc_model.specs.declared.value.Value.TheVariants as v
use Rattle.ipc_column.proofs.Cells.{items_more}
use Rattle.ipc_column.proofs.lending.Lendings.{lent_offsets, lent_order}
use Rattle.ipc_column.proofs.Opened.{list_out, null_out, struct_out}
use Rattle.ipc_column.proofs.Parts.{children_out}
use Rattle.ipc_column.proofs.SlotValues.{cell_value, child_value, first_value, null_only, slot_count, slot_is, some_same}
use Rattle.ipc_column.proofs.lending.Slices.{places}
use Rattle.ipc_column.proofs.lending.Slots.{bytes_from, items_length, order_from}
use Rattle.ipc_column.specs.checks.Checks.{are_ascending, have_slots}
use Rattle.ipc_column.specs.Columns.{Columns}
use Rattle.ipc_column.specs.Lending.{AreBuffers, MarksNulls}
use Rattle.ipc_column.specs.Nested.{Nested, child_columns, slot_values, only_column}
use Rattle.ipc_column.specs.checks.Plain.{IsShownBy}
use Rattle.ipc_column.specs.checks.Rules.{TextsAreUtf8, HasUtf8Texts}
use Rattle.ipc_column.specs.Shapes.{Shape, bare, field}
use Rattle.ipc_column.specs.Slots.{nested, nested_in}
use Rattle.ipc_column.specs.Values.{first_of, is_valid, values_from, own_value, offset_position, row, value_of}
use Rattle.ipc_column.specs.Views.{part_columns, column_of, children_of}
use Rattle.ipc_column.specs.declared.buffers.Buffers.{Buffers}
use Rattle.ipc_column.specs.declared.ranges.ColumnRanges.{ColumnRanges}
use Rattle.ipc_encode.specs.Cells.{all_items, all_parts, cell, is_set, items_in, offsets, struct_member, part_in}
use Rattle.ipc_encode.specs.Cells.{all_fixed_items, fixed_items, fixed_items_in}
use Rattle.ipc_encode.specs.Cells as cells
use Rattle.ipc_encode.specs.Columns.{data_in}
use Rattle.ipc_encode.specs.Pieces.{Items, Valid}
use Rattle.ipc_encode.specs.WholeColumns.{AreFullColumns, IsFullColumn}
use Rattle.ipc_encode.proofs.Growing.{IsAt}
use Rattle.ipc_encode.proofs.LentBuffers.{offsets_lie, buffers_at, place_few, place_is}
use Rattle.ipc_encode.proofs.LentBuffers.{own_set, start_of}
use Rattle.ipc_encode.proofs.Steps.{below_append, extents, items_extents, items_next, of_size}

-- ---- the slots of the children of a column that was read, where they are those that its slots lead to

-- ---- runs of slots

items_same : (f g : ℕ → Value) (i n : ℕ) → ((j : ℕ) → f j ≡ g j) → values_from f i n ≡ values_from g i n
items_same f g i zero h = refl
items_same f g i (suc n) h =
    let first = h i in
    let rest = items_same f g (i + 1) n h in
    λ k. first k ∷ rest k

items_join : (f : ℕ → Value) (a m n : ℕ) → values_from f a (m + n) ≡ values_from f a m ++ values_from f (a + m) n
items_join f a zero n =
    let here : a + 0 ≡ a = omega arith in
    let size : 0 + n ≡ n = omega arith in
    rw (here, size) refl
items_join f a (suc m) n =
    let size : suc m + n ≡ suc (m + n) = omega arith in
    let offset_position : a + suc m ≡ a + 1 + m = omega arith in
    rw (size, offset_position) (ap (λ (vs : List Value). f a ∷ vs) (items_join f (a + 1) m n))

-- lists whose items are runs one behind another have the items of one run
runs_join : (f g : ℕ → Value) (at : ℕ → ℕ) (n : ℕ) → ((i : ℕ) → i < n → cells.items (f i) ≡ values_from g (at i) (at (i + 1) - at i))
    → ((i : ℕ) → i < n → at i ≤ at (i + 1))
    → (at 0 ≤ at n) × (all_items (values_from f 0 n) ≡ values_from g (at 0) (at n - at 0))
runs_join f g at zero each rise = (
  omega arith,
  ap (λ (k : ℕ). values_from g (at 0) k) (let none : 0 ≡ at 0 - at 0 = omega arith in none),
)
runs_join f g at (suc n) each rise =
    let before = runs_join f g at n (λ i m. each i (omega arith)) (λ i m. rise i (omega arith)) in
    let more : n + 1 ≡ suc n = omega arith in
    let step : at n ≤ at (suc n) = subst (λ (k : ℕ). at n ≤ at k) more (rise n (omega arith)) in
    let here : 0 + n ≡ n = omega arith in
    let next : cells.items (f n) ≡ values_from g (at n) (at (suc n) - at n) =
    each n (omega arith) ∙ ap (λ (k : ℕ). values_from g (at n) (at k - at n)) more in
    let size : at n - at 0 + (at (suc n) - at n) ≡ at (suc n) - at 0 = omega (arith, before.0, step) in
    let offset_position : at 0 + (at n - at 0) ≡ at n = omega (arith, before.0) in (
      omega (arith, before.0, step),
      ap (λ (k : ℕ). all_items (values_from f 0 k)) (sym more)
          ∙ (ap all_items (items_more f 0 n ∙ ap (λ (k : ℕ). values_from f 0 n ++ f k ∷ []) here)
          ∙ (below_append l.Lists (values_from f 0 n) (f n ∷ []) 0
          ∙ (ap (λ (vs : List Value). all_items (values_from f 0 n) ++ vs) (append-nil (cells.items (f n)))
          ∙ (ap (λ (vs : List Value). vs ++ cells.items (f n)) before.1
          ∙ (ap (λ (vs : List Value). values_from g (at 0) (at n - at 0) ++ vs)
          (next ∙ ap (λ (k : ℕ). values_from g k (at (suc n) - at n)) (sym offset_position))
          ∙ (sym (items_join g (at 0) (at n - at 0) (at (suc n) - at n))
          ∙ ap (λ (k : ℕ). values_from g (at 0) k) size)))))),
    )

-- ---- lists

module _ (s : Nested) (b : Buffers) (h : AreBuffers s b) (e : b.layout ≡ l.Lists) (some : 0 < length (slot_values s)) where
  pub list_laid : s.column.layout ≡ l.Lists
  list_laid = sym h.layout ∙ e

  pub list_offsets_there : 4 * (length (slot_values s) + 1) ≤ length b.offsets.now
  list_offsets_there =
      let count = slot_count s in
      let size = ap (λ (bs : List ℕ). length bs) h.offsets in
      let there = bytes_from s.column.slots (length s.column.offsets) (rw list_laid at (lent_offsets s b h)) (omega (arith, some, count)) in
      omega (arith, there, count, size)

  list_ascend : are_ascending b.offsets.now (length (slot_values s)) (offset_position b.offsets.now (length (slot_values s))) ≡ true
  list_ascend =
      let count = slot_count s in
      let n = s.column.slots in
      let o = s.column.offsets in
      let there = bytes_from n (length o) (rw list_laid at (lent_offsets s b h)) (omega (arith, some, count)) in
      let both = order_from n o (are_ascending o n (offset_position o n) && have_slots (offset_position o n) (child_columns s))
      (rw list_laid at (lent_order s b h))
      (omega (arith, some, count)) there in
      rw (h.offsets, count) (and_parts (are_ascending o n (offset_position o n)) (have_slots (offset_position o n) (child_columns s))
      both).0

  module _ (small : (k : ℕ) → get_or b.offsets.now k 0 < 256)
      (empty : (i : ℕ) → i < length (slot_values s) → is_valid b.validity.now i ≡ false
      → start_of b.offsets.now (i + 1) ≡ start_of b.offsets.now i) where
    pub list_place : (i : ℕ) → i ≤ length (slot_values s) → offset_position b.offsets.now i ≡ start_of b.offsets.now i
    list_place i m = place_is b.offsets.now (length (slot_values s)) (offset_position b.offsets.now (length (slot_values s))) i small
        list_ascend m

    list_rise : (i : ℕ) → i < length (slot_values s) → offset_position b.offsets.now i ≤ offset_position b.offsets.now (i + 1)
    list_rise i m =
        (places b.offsets.now (length (slot_values s)) (offset_position b.offsets.now (length (slot_values s))) i (i + 1) list_ascend
        (omega arith)
        (omega arith)).order

    -- the items of a slot are a run of the first child's
    list_at : (i : ℕ) → i < length (slot_values s)
        → cells.items (value_of (row (child_columns s)) s.column i)
        ≡ values_from (λ j. first_of (row (child_columns s) j)) (offset_position b.offsets.now i)
        (offset_position b.offsets.now (i + 1) - offset_position b.offsets.now i)
    list_at i m = ap cells.items (sym (slot_is s i m) ∙ buffers_at s b h i m) ∙ either (is_valid b.validity.now i) refl
      where
        g : ℕ → Value
        g j = first_of (row (child_columns s) j)

        none : offset_position b.offsets.now (i + 1) - offset_position b.offsets.now i ≡ 0 → values_from g (offset_position b.offsets.now i)
            (offset_position b.offsets.now (i + 1) - offset_position b.offsets.now i) ≡ []
        none e = ap (λ (k : ℕ). values_from g (offset_position b.offsets.now i) k) e

        own : (layout : Layout) → layout ≡ l.Lists
            → cells.items (own_value layout s.column.dictionary (row (child_columns s)) b.offsets.now b.values.now i)
            ≡ values_from (λ j. first_of (row (child_columns s) j)) (offset_position b.offsets.now i)
            (offset_position b.offsets.now (i + 1) - offset_position b.offsets.now i)
        own layout e =
            let run = values_from (λ j. first_of (row (child_columns s) j)) (offset_position b.offsets.now i) (offset_position b.offsets.now
            (i + 1) - offset_position b.offsets.now i) in
            rw e (ap items_in (list_out run))

        either : (valid : Bool) → is_valid b.validity.now i ≡ valid
            → cells.items (cond valid (own_value b.layout s.column.dictionary (row (child_columns s)) b.offsets.now b.values.now i) v.Null)
            ≡ values_from (λ j. first_of (row (child_columns s) j)) (offset_position b.offsets.now i)
            (offset_position b.offsets.now (i + 1) - offset_position b.offsets.now i)
        either true e' = own b.layout e
        either false e' =
            let here = list_place i (omega arith) in
            let next = list_place (i + 1) (omega arith) in
            let same = empty i m e' in
            ap items_in null_out ∙ sym (none (omega (arith, here, next, same)))

    -- each offset is as far from the first as the lists before it have items
    list_far : (i : ℕ) → i ≤ length (slot_values s)
        → start_of b.offsets.now 0 + extents Items (take i (slot_values s)) ≡ start_of b.offsets.now i
    list_far zero m = omega arith
    list_far (suc i) m =
        let vs = slot_values s in
        let o = b.offsets.now in
        let more : i + 1 ≡ suc i = omega arith in
        let count = slot_count s in
        let before = list_far i (omega arith) in
        let here = list_place i (omega arith) in
        let next = list_place (i + 1) (omega arith) in
        let rise = list_rise i (omega arith) in
        let one : length (cells.items (get_or vs i Null)) ≡ offset_position o (i + 1) - offset_position o i =
        ap (λ (v : Value). length (cells.items v)) (slot_is s i (omega arith))
        ∙ (ap (λ (vs : List Value). length vs) (list_at i (omega arith))
        ∙ items_length (λ j. first_of (row (child_columns s) j)) (offset_position o i) (offset_position o (i + 1) - offset_position o i)) in
        let items = items_next vs i (omega arith) in
        let run = items_extents (take i vs) in
        let runs = items_extents (take (i + 1) vs) in
        let whole : start_of o 0 + extents Items (take (i + 1) vs) ≡ start_of o (i + 1) =
        omega (arith, before, here, next, rise, one, items, run, runs) in
        subst (λ (k : ℕ). start_of o 0 + extents Items (take k vs) ≡ start_of o k) more whole

    -- lists that begin at 0 have the offsets that are written
    pub list_offsets_are : start_of b.offsets.now 0 ≡ 0
        → take (4 * (length (slot_values s) + 1)) b.offsets.now ≡ offsets Items (slot_values s)
    list_offsets_are first = offsets_lie Items (slot_values s) b.offsets.now small list_offsets_there list_far first

    -- and so many items that offsets reach them
    pub list_few : start_of b.offsets.now 0 ≡ 0 → data_in l.Lists (slot_values s) ≤ max_data
    list_few first =
        let vs = slot_values s in
        let n = length vs in
        let far = list_far n (omega arith) in
        let all = ap (extents Items) (take_all n vs (omega arith)) in
        let run = items_extents vs in
        let end = place_few b.offsets.now n (offset_position b.offsets.now n) n small list_ascend (omega arith) in
        omega (arith, first, far, all, run, end)

    -- all items are those of one run
    pub list_run : all_items (slot_values s)
        ≡ values_from (λ j. first_of (row (child_columns s) j)) (offset_position b.offsets.now 0)
        (offset_position b.offsets.now (length (slot_values s)) - offset_position b.offsets.now 0)
    list_run =
        let count = slot_count s in
        (runs_join (value_of (row (child_columns s)) s.column) (λ j. first_of (row (child_columns s) j)) (offset_position b.offsets.now)
        s.column.slots
        (λ i m. list_at i (omega (arith, m, count))) (λ i m. list_rise i (omega (arith, m, count)))).1
        ∙ ap (λ (k : ℕ). values_from (λ j. first_of (row (child_columns s) j)) (offset_position b.offsets.now 0)
        (offset_position b.offsets.now k - offset_position b.offsets.now 0))
        (sym count)

    -- which has all slots of the child
    pub list_gives : (child : Nested) → slice_get (nested_in s) 0 ≡ Some child → start_of b.offsets.now 0 ≡ 0
        → start_of b.offsets.now (length (slot_values s)) ≡ length (slot_values child)
        → all_items (slot_values s) ≡ slot_values child
    list_gives child is first last =
        let start = list_place 0 (omega arith) ∙ first in
        let end = list_place (length (slot_values s)) (omega arith) ∙ (last ∙ slot_count child) in
        list_run
        ∙ (ap (λ (k : ℕ). values_from (λ j. first_of (row (child_columns s) j)) k
        (offset_position b.offsets.now (length (slot_values s)) - k))
        start
        ∙ (ap (λ (k : ℕ). values_from (λ j. first_of (row (child_columns s) j)) 0 k)
        (let k : offset_position b.offsets.now (length (slot_values s)) - 0 ≡ child.column.slots = omega (arith, end) in k)
        ∙ items_same (λ j. first_of (row (child_columns s) j)) (child_value child) 0 child.column.slots (λ j. first_value s child j is)))

-- offsets reach all items of no lists
pub no_data : (vs : List Value) → length vs ≡ 0 → data_in l.Lists vs ≤ max_data
no_data [] none = omega arith
no_data (v ∷ vs) none = absurd (omega arith)

-- no lists have one offset, 0
pub no_offsets : (vs : List Value) → length vs ≡ 0 → replicate 4 0 ≡ offsets Items vs
no_offsets [] none = refl
no_offsets (v ∷ vs) none = absurd (omega arith)

-- no lists have no items
pub no_lists : (vs ws : List Value) → length vs ≡ 0 → length ws ≡ 0 → all_items vs ≡ ws
no_lists [] [] none same = refl
no_lists [] (w ∷ ws) none same = absurd (omega arith)
no_lists (v ∷ vs) ws none same = absurd (omega arith)

-- ---- lists of a fixed size

-- a run of nulls
nulls_run : (g : ℕ → Value) (a n : ℕ) → ((j : ℕ) → a ≤ j → j < a + n → g j ≡ Null) → values_from g a n ≡ replicate n Null
nulls_run g a zero h = refl
nulls_run g a (suc n) h =
    let first : g a ≡ Null = h a (omega arith) (omega arith) in
    let rest = nulls_run g (a + 1) n (λ j from to. h j (omega (arith, from)) (omega (arith, to))) in
    rw (first, rest) refl

only_null : (value : Value) → IsShownBy l.Null value → value ≡ Null
unfolding out-Value denote.Hole.Carrier.out
only_null v.Null h = refl
only_null value h = absurd h

-- each slot of a column of nulls is null
pub null_each : (vs : List Value) (j : ℕ) → AllByRecursion (IsShownBy l.Null) vs → get_or vs j Null ≡ Null
null_each [] j h = refl
null_each (v ∷ vs) zero h = only_null v h.0
null_each (v ∷ vs) (suc j) h = null_each vs j h.1

-- lists whose items are runs of one size have the items of one run
fixed_join : (f g : ℕ → Value) (size n : ℕ) → ((i : ℕ) → i < n → fixed_items size (f i) ≡ values_from g (size * i) size)
    → all_fixed_items size (values_from f 0 n) ≡ values_from g 0 (size * n)
fixed_join f g size zero each = ap (λ (k : ℕ). values_from g 0 k) (let none : 0 ≡ size * 0 = omega arith in none)
fixed_join f g size (suc n) each =
    let before = fixed_join f g size n (λ i m. each i (omega arith)) in
    let more : n + 1 ≡ suc n = omega arith in
    let here : 0 + n ≡ n = omega arith in
    let behind : size * n ≡ 0 + size * n = omega arith in
    let whole : size * n + size ≡ size * suc n = omega arith in
    ap (λ (k : ℕ). all_fixed_items size (values_from f 0 k)) (sym more)
    ∙ (ap (all_fixed_items size) (items_more f 0 n ∙ ap (λ (k : ℕ). values_from f 0 n ++ f k ∷ []) here)
    ∙ (below_append (l.FixedLists size) (values_from f 0 n) (f n ∷ []) 0
    ∙ (ap (λ (vs : List Value). all_fixed_items size (values_from f 0 n) ++ vs) (append-nil (fixed_items size (f n)))
    ∙ (ap (λ (vs : List Value). vs ++ fixed_items size (f n)) before
    ∙ (ap (λ (vs : List Value). values_from g 0 (size * n) ++ vs)
    (each n (omega arith) ∙ ap (λ (k : ℕ). values_from g k size) behind)
    ∙ (sym (items_join g 0 (size * n) size)
    ∙ ap (λ (k : ℕ). values_from g 0 k) whole))))))

-- a child with so many slots, which are null where the list is, has the items of the lists
pub fixed_gives : (s child : Nested) (b : Buffers) (size : ℕ) → AreBuffers s b → b.layout ≡ l.FixedLists size
    → slice_get (nested_in s) 0 ≡ Some child → size * length (slot_values s) ≡ length (slot_values child)
    → ((i : ℕ) → i < length (slot_values s) → is_valid b.validity.now i ≡ false → (j : ℕ) → size * i ≤ j → j < size * (i + 1)
    → get_or (slot_values child) j Null ≡ Null) → all_fixed_items size (slot_values s) ≡ slot_values child
fixed_gives s child b size h e is all empty =
    let count = slot_count s in
    let many : size * s.column.slots ≡ child.column.slots = omega (arith, all, ap (λ (n : ℕ). size * n) count, slot_count child) in
    fixed_join (value_of (row (child_columns s)) s.column) g size s.column.slots (λ i m. at i (omega (arith, m, count)))
    ∙ (ap (λ (k : ℕ). values_from g 0 k) many
    ∙ items_same g (child_value child) 0 child.column.slots (λ j. first_value s child j is))
  where
    g : ℕ → Value
    g j = first_of (row (child_columns s) j)

    own : (layout : Layout) (i : ℕ) → layout ≡ l.FixedLists size
        → fixed_items size (own_value layout s.column.dictionary (row (child_columns s)) b.offsets.now b.values.now i)
        ≡ values_from g (size * i) size
    own layout i e =
        let run = values_from g (size * i) size in
        rw e (ap (fixed_items_in size) (list_out run) ∙ of_size run (replicate size Null) size (items_length g (size * i) size))

    either : (i : ℕ) → i < length (slot_values s) → (valid : Bool) → is_valid b.validity.now i ≡ valid
        → fixed_items size (cond valid (own_value b.layout s.column.dictionary (row (child_columns s)) b.offsets.now b.values.now i) v.Null)
        ≡ values_from g (size * i) size
    either i m true e' = own b.layout i e
    either i m false e' =
        let last : size * i + size ≡ size * (i + 1) = omega arith in
        let less : size * (i + 1) ≤ size * length (slot_values s) = mul-le-mul_left size (omega (arith, m)) in
        ap (fixed_items_in size) null_out
        ∙ sym (nulls_run g (size * i) size (λ j from to.
        first_value s child j is
        ∙ (sym (slot_is child j (omega (arith, to, last, less, all)))
        ∙ empty i m e' j from (omega (arith, to, last)))))

    at : (i : ℕ) → i < length (slot_values s)
        → fixed_items size (value_of (row (child_columns s)) s.column i) ≡ values_from g (size * i) size
    at i m = ap (fixed_items size) (sym (slot_is s i m) ∙ buffers_at s b h i m) ∙ either i m (is_valid b.validity.now i) refl

-- ---- structs

-- part k of each value, one by one
parts_same : (k : ℕ) (vs ws : List Value) → length vs ≡ length ws
    → ((i : ℕ) → i < length vs → struct_member k (get_or vs i Null) ≡ get_or ws i Null) → all_parts k vs ≡ ws
parts_same k [] [] size each = refl
parts_same k [] (w ∷ ws) size each = absurd (omega arith)
parts_same k (v ∷ vs) [] size each = absurd (omega arith)
parts_same k (v ∷ vs) (w ∷ ws) size each =
    let first : struct_member k v ≡ w = each 0 (omega arith) in
    let rest = parts_same k vs ws (omega (arith, size)) (λ i m. each (suc i) (omega arith)) in
    rw (first, rest) refl

-- a child with as many slots, which are null where the struct is, has the parts of the structs
pub struct_gives : (s child : Nested) (b : Buffers) (k : ℕ) → AreBuffers s b → b.layout ≡ l.Structs → slice_get (nested_in s) k ≡ Some child
    → length (slot_values s) ≡ length (slot_values child)
    → ((i : ℕ) → i < length (slot_values s) → is_valid b.validity.now i ≡ false → get_or (slot_values child) i Null ≡ Null)
    → all_parts k (slot_values s) ≡ slot_values child
struct_gives s child b k h e is size empty =
    parts_same k (slot_values s) (slot_values child) size
    (λ i m. ap (struct_member k) (buffers_at s b h i m) ∙ either i m (is_valid b.validity.now i) refl)
  where
    own : (layout : Layout) (i : ℕ) → layout ≡ l.Structs
        → struct_member k (own_value layout s.column.dictionary (row (child_columns s)) b.offsets.now b.values.now i)
        ≡ cell k (row (child_columns s) i)
    own layout i e = rw e (ap (part_in k) (struct_out (row (child_columns s) i)))

    either : (i : ℕ) → i < length (slot_values s) → (valid : Bool) → is_valid b.validity.now i ≡ valid
        → struct_member k (cond valid (own_value b.layout s.column.dictionary (row (child_columns s)) b.offsets.now b.values.now i) v.Null)
        ≡ get_or (slot_values child) i Null
    either i m true e' = own b.layout i e ∙ (cell_value s child k i is ∙ sym (slot_is child i (omega (arith, m, size))))
    either i m false e' = ap (part_in k) null_out ∙ sym (empty i m e')

-- a slot that is null where another column is, all of whose slots are valid that are so in its own
pub shared_null : (own marks : List ℕ) (vs : List Value) (i : ℕ) → i < length vs → MarksNulls own vs
    → (is_valid own i ≡ true → is_valid marks i ≡ true) → is_valid marks i ≡ false → get_or vs i Null ≡ Null
shared_null own marks vs i m marked among null = either (is_valid own i) refl
  where
    either : (valid : Bool) → is_valid own i ≡ valid → get_or vs i Null ≡ Null
    either true e = absurd (false≢true (sym null ∙ among e))
    either false e = null_only (get_or vs i Null) (sym (marked.each i m) ∙ ap not e)

-- ---- the texts of children whose slots are those that the slots of their column lead to

-- a slot of a column that spells its texts does so in child k
pub child_spells : (s child : Nested) (k j : ℕ) → slice_get (nested_in s) k ≡ Some child → HasUtf8Texts (child_columns s) j → HasUtf8Texts
    (only_column child) j
child_spells s child k j e h = at s.children k e h
  where
    one : (p : ColumnRanges)
        → (is_valid (column_of s.body p).validity j ≡ true
        → TextsAreUtf8 (column_of s.body p).layout (HasUtf8Texts (children_of s.body p)) (column_of s.body p).offsets
        (column_of s.body p).values j)
        → HasUtf8Texts (only_column (nested s.body p)) j
    one p h = (
      λ valid. subst (λ (cs : Columns). TextsAreUtf8 (column_of s.body p).layout (HasUtf8Texts cs) (column_of s.body p).offsets
          (column_of s.body p).values j)
          (children_out s.body p) (h valid),
      tt,
    )

    at : (ps : List ColumnRanges) (k : ℕ) → slice_get (map (nested s.body) ps) k ≡ Some child → HasUtf8Texts (part_columns s.body ps) j
        → HasUtf8Texts (only_column child) j
    at [] k e h = absurd (none-some child e)
    at (p ∷ ps) zero e h = subst (λ (n : Nested). HasUtf8Texts (only_column n) j) (some_same (nested s.body p) child e) (one p h.0)
    at (p ∷ ps) (suc k) e h = at ps k e h.1

-- the step of a stair on which a number stands
pub record Stands (at : ℕ → ℕ) (n j : ℕ) : Type 0 where
  pub step : ℕ
  pub within : step < n
  pub from : at step ≤ j
  pub to : j < at (step + 1)

pub stands : (at : ℕ → ℕ) (n j : ℕ) → at 0 ≤ j → j < at n → Stands at n j
stands at zero j low high = absurd (omega arith)
stands at (suc n) j low high = elim (cases_lt j (at n)) as (λ _. Stands at (suc n) j) [
  | inl under ↦ let s = stands at n j low under in record {
    step = s.step;
    within = let m = s.within in omega
        (arith, m);
    from = s.from;
    to = s.to;
  }
  | inr over ↦ record {
    step = n;
    within = omega arith;
    from = over;
    to = subst (λ (k : ℕ). j < at k) (let k : suc n ≡ n + 1 = omega arith in k) high;
  }
]

-- the slots of the child of lists that have all of them
pub list_texts : (s child : Nested) (n j : ℕ) → slice_get (nested_in s) 0 ≡ Some child → s.column.layout ≡ l.Lists
    → ((i : ℕ) → i < n → HasUtf8Texts (only_column s) i)
    → ((i : ℕ) → i < n → (is_valid s.column.validity i ≡ true → ⊥) → offset_position s.column.offsets (i + 1)
    ≡ offset_position s.column.offsets i)
    → offset_position s.column.offsets 0 ≡ 0 → j < offset_position s.column.offsets n → HasUtf8Texts (only_column child) j
list_texts s child n j is laid spelled empty first last =
    let o = s.column.offsets in
    let at = stands (offset_position o) n j (omega (arith, first)) last in
    either at (is_valid s.column.validity at.step) refl
  where
    either : (at : Stands (offset_position s.column.offsets) n j) (valid : Bool) → is_valid s.column.validity at.step ≡ valid → HasUtf8Texts
        (only_column child) j
    either at true e = child_spells s child 0 j is ((rw laid at ((spelled at.step at.within).0 e)) j at.from at.to)
    either at false e =
        let same = empty at.step at.within (λ valid. absurd (cc)) in
        let from = at.from in
        let to = at.to in
        absurd (omega (arith, same, from, to))

not_true : (b : Bool) → (b ≡ true → ⊥) → b ≡ false
not_true true h = absurd (h refl)
not_true false h = refl

-- the same by the buffers
module _ (s : Nested) (b : Buffers) (h : AreBuffers s b) (e : b.layout ≡ l.Lists) (some : 0 < length (slot_values s))
    (small : (k : ℕ) → get_or b.offsets.now k 0 < 256)
    (empty : (i : ℕ) → i < length (slot_values s) → is_valid b.validity.now i ≡ false
    → start_of b.offsets.now (i + 1) ≡ start_of b.offsets.now i) where
  own_place : (i : ℕ) → i ≤ length (slot_values s) → offset_position s.column.offsets i ≡ start_of b.offsets.now i
  own_place i m = ap (λ (o : List ℕ). offset_position o i) (sym h.offsets) ∙ list_place s b h e some small empty i m

  pub list_spells : (child : Nested) → slice_get (nested_in s) 0 ≡ Some child → start_of b.offsets.now 0 ≡ 0
      → start_of b.offsets.now (length (slot_values s)) ≡ length (slot_values child)
      → ((i : ℕ) → i < length (slot_values s) → HasUtf8Texts (only_column s) i)
      → (j : ℕ) → j < length (slot_values child) → HasUtf8Texts (only_column child) j
  list_spells child is first last spelled j m =
      let end = own_place (length (slot_values s)) (omega arith) in
      list_texts s child (length (slot_values s)) j is (list_laid s b h e some) spelled
      (λ i k null. own_place (i + 1) (omega (arith, k))
      ∙ (empty i k (ap (λ (v : List ℕ). is_valid v i) h.validity ∙ not_true (is_valid s.column.validity i) null)
      ∙ sym (own_place i (omega (arith, k)))))
      (own_place 0 (omega arith) ∙ first) (omega (arith, end, last, m))

-- nothing is asked of a slot that shows null
nothing_spelled : (layout : Layout) (d : List Value) (under : ℕ → List Value) (child_columns : ℕ → Type 0) (o w : List ℕ) (i : ℕ)
    → is_set Valid (own_value layout d under o w i) ≡ false → TextsAreUtf8 layout child_columns o w i
nothing_spelled (l.VariableBytes utf8) d under child_columns o w i h =
    absurd (false≢true (sym h ∙ own_set (l.VariableBytes utf8) d under o w i (λ e. absurd (cc), λ bits signed id e. absurd (cc))))
nothing_spelled l.Lists d under child_columns o w i h =
    absurd (false≢true (sym h ∙ own_set l.Lists d under o w i (λ e. absurd (cc), λ bits signed id e. absurd (cc))))
nothing_spelled (l.FixedLists size) d under child_columns o w i h =
    absurd (false≢true (sym h ∙ own_set (l.FixedLists size) d under o w i (λ e. absurd (cc), λ bits signed id e. absurd (cc))))
nothing_spelled l.Structs d under child_columns o w i h =
    absurd (false≢true (sym h ∙ own_set l.Structs d under o w i (λ e. absurd (cc), λ bits signed id e. absurd (cc))))
nothing_spelled _ d under child_columns o w i h = tt

pub null_spells : (child : Nested) (j : ℕ) → j < length (slot_values child) → get_or (slot_values child) j Null ≡ Null
    → HasUtf8Texts (only_column child) j
null_spells child j m null = (
  λ valid. nothing_spelled child.column.layout child.column.dictionary (row (child_columns child)) (HasUtf8Texts (child_columns child))
      child.column.offsets
      child.column.values j
      (ap (is_set Valid) (sym (slot_is child j m ∙ rw valid refl) ∙ null) ∙ ap (λ (f : Value-F Value). not (cells.is_null f)) null_out),
  tt,
)

-- the slots of a child of structs, which are null where these are
pub struct_texts : (s child : Nested) (k j : ℕ) → slice_get (nested_in s) k ≡ Some child → s.column.layout ≡ l.Structs
    → HasUtf8Texts (only_column s) j → j < length (slot_values child)
    → ((is_valid s.column.validity j ≡ true → ⊥) → get_or (slot_values child) j Null ≡ Null) → HasUtf8Texts (only_column child) j
struct_texts s child k j is laid spelled m null = either (is_valid s.column.validity j) refl
  where
    either : (valid : Bool) → is_valid s.column.validity j ≡ valid → HasUtf8Texts (only_column child) j
    either true e = child_spells s child k j is (rw laid at (spelled.0 e))
    either false e = null_spells child j m (null (λ valid. absurd (cc)))

-- the same by the buffers
pub struct_spells : (s child : Nested) (b : Buffers) (k : ℕ) → AreBuffers s b → b.layout ≡ l.Structs → slice_get
    (nested_in s) k ≡ Some child
    → length (slot_values s) ≡ length (slot_values child)
    → ((i : ℕ) → i < length (slot_values s) → is_valid b.validity.now i ≡ false → get_or (slot_values child) i Null ≡ Null)
    → ((i : ℕ) → i < length (slot_values s) → HasUtf8Texts (only_column s) i)
    → (j : ℕ) → j < length (slot_values child) → HasUtf8Texts (only_column child) j
struct_spells s child b k h e is size empty spelled j m =
    let here : j < length (slot_values s) = omega (arith, size, m) in
    struct_texts s child k j is (sym h.layout ∙ e) (spelled j here) m
    (λ null. empty j here (ap (λ (v : List ℕ). is_valid v j) h.validity ∙ not_true (is_valid s.column.validity j) null))

-- the slots of a child of lists of a fixed size, which are null where the list is
pub fixed_spells : (s child : Nested) (b : Buffers) (size : ℕ) → AreBuffers s b → b.layout ≡ l.FixedLists size
    → slice_get (nested_in s) 0 ≡ Some child → size * length (slot_values s) ≡ length (slot_values child)
    → ((i : ℕ) → i < length (slot_values s) → is_valid b.validity.now i ≡ false → (j : ℕ) → size * i ≤ j → j < size * (i + 1)
    → get_or (slot_values child) j Null ≡ Null)
    → ((i : ℕ) → i < length (slot_values s) → HasUtf8Texts (only_column s) i)
    → (j : ℕ) → j < length (slot_values child) → HasUtf8Texts (only_column child) j
fixed_spells s child b size h e is all empty spelled j m = either (is_valid s.column.validity at.step) refl
  where
    at : Stands (λ i. size * i) (length (slot_values s)) j
    at = stands (λ i. size * i) (length (slot_values s)) j (let low : size * 0 ≤ j = omega arith in low) (omega (arith, all, m))

    either : (valid : Bool) → is_valid s.column.validity at.step ≡ valid → HasUtf8Texts (only_column child) j
    either true v =
        child_spells s child 0 j is
        (subst (λ (x : Layout). TextsAreUtf8 x (HasUtf8Texts (child_columns s)) s.column.offsets s.column.values at.step) (sym h.layout ∙ e)
        ((spelled at.step at.within).0 v) j at.from at.to)
    either false v = null_spells child j m
        (empty at.step at.within (ap (λ (o : List ℕ). is_valid o at.step) h.validity ∙ v) j at.from at.to)

-- ---- columns that lie whole, one by one

-- the column that was read for a field
pub whole_at : (i : ℕ) (shape : Shape) (views : List Nested) (given : ℕ → List Value) (l : Layout) (c : Shape) (v : Nested)
    → IsAt i shape l c → slice_get views i ≡ Some v → AreFullColumns shape views given → IsFullColumn l c v (given i)
whole_at i bare views given l c v at is h = absurd at
whole_at i (field k e rest) [] given l c v at is h = absurd h
whole_at zero (field k e rest) (w ∷ ws) given l c v at is h =
    subst (λ (n : Nested). IsFullColumn l c n (given 0)) (some_same w v is)
    (subst (λ (s : Shape). IsFullColumn l s w (given 0)) at.1 (subst (λ (x : Layout). IsFullColumn x e w (given 0)) at.0 h.0))
whole_at (suc i) (field k e rest) (w ∷ ws) given l c v at is h = whole_at i rest ws (λ j. given (suc j)) l c v at is h.1

-- what holds of the first numbers and of the next
pub first_and_next : (Q : ℕ → Type 0) (i : ℕ) → ((j : ℕ) → j < i → Q j) → Q i → (j : ℕ) → j < i + 1 → Q j
first_and_next Q i before next j m = elim (cases_lt j i) as (λ _. Q j) [
  | inl under ↦ before j under
  | inr over ↦ subst Q (let same : i ≡ j = omega (arith, m, over) in same) next
]
