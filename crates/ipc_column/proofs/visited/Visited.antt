-- What the visits of a part stand on.
use Rattle.std.proofs.Common.{◌≡◌, ◌∙◌, refl, sym, ap, subst, ℕ, ◌+◌, ◌-◌, ◌*◌, ◌<◌, ◌≤◌, Bool, true, false, List, [], ◌∷◌, length}
use Rattle.std.proofs.Common.{arith, drop}
use Rattle.std.specs.Prelude.{◌||◌, ◌==◌, ℤ}
use Rattle.std.proofs.lemmas.Bool.{false≢true, leb-true}
use Rattle.std.proofs.lemmas.List.{drop_all}
use Rattle.ipc_model.specs.declared.layout.Layout.{Layout}
use Rattle.ipc_model.specs.declared.layout.Layout.TheVariants as l
use Rattle.ipc_model.specs.Layouts.{needs_slot_checks, is_texts, number_bytes}
use Rattle.ipc_model.specs.declared.schema.IntBits.{IntBits}
use Rattle.std.proofs.Math.Nat.{mul-le-mul_left}
use Rattle.ipc_column.specs.declared.ranges.ColumnRanges.{ColumnRanges}
use Rattle.ipc_column.specs.declared.ranges.ColumnRanges.TheViews.{out-ColumnRanges}
use Rattle.ipc_column.specs.Columns.{Column, Columns, none, column}
use Rattle.ipc_column.specs.Values.{offset_position, child_slot, is_nested}
use Rattle.ipc_column.specs.checks.Rules.{have_slot_checks, has_slot_visits}
use Rattle.ipc_model.specs.declared.fault.Fault.{Fault}
use Rattle.ipc_model.specs.declared.fault.Fault.TheVariants as fault
use Rattle.ipc_column.specs.checks.Checks.{IsIndexed, good, range_good, all_slots, text_good, index_good, passes, holds_values}
use Rattle.ipc_column.specs.Lent.{AreSlots}
use Rattle.ipc_column.specs.Views.{part_columns, column_of, children_of, one}
use Rattle.ipc_column.specs.checks.Weights.{visits, visits_below}
use Rattle.ipc_column.proofs.Parts.{own_column, children_out, column_is}
use Rattle.ipc_column.proofs.lending.Slots.{TextParts, list_parts, text_parts, slots_below, slots_within, part_slots, part_long, part_most}
use Rattle.ipc_column.proofs.lending.FixedLists.{fixed_end}
use Rattle.ipc_column.proofs.visited.Goods.{range_enough, range_whole, quiet_good, texts_good, texts_pass, indices_good, indices_pass}

-- what holds of a part's own fields holds of its column and its children
pub part_back : (P : Column → Columns → Type 0) (body : List ℕ) (p : ColumnRanges)
    → P (own_column body p) (part_columns body (out-ColumnRanges p).children.items) → P (column_of body p) (children_of body p)
part_back P body p h =
    subst (λ (c : Column). P c (children_of body p)) (sym (column_is body p))
    (subst (λ (cs : Columns). P (own_column body p) cs) (sym (children_out body p)) h)

pub layout_is : (body : List ℕ) (p : ColumnRanges) → (column_of body p).layout ≡ (out-ColumnRanges p).layout
layout_is body p = ap (λ (c : Column). c.layout) (column_is body p)

-- the offsets of a list's slots are there
pub list_bytes : (body : List ℕ) (p : ColumnRanges) (i j k : ℕ) → AreSlots (one body p) i j → i < j → k ≤ j
    → (out-ColumnRanges p).layout ≡ l.Lists → 4 * (k + 1) ≤ length (own_column body p).offsets
list_bytes body p i j k h m n e =
    let most = part_most body p i j h in
    let parts = list_parts (own_column body p) (part_columns body (out-ColumnRanges p).children.items) (part_long body p i j h) e
    (omega arith) in
    let bytes = parts.bytes in
    omega (arith, most, bytes)

-- the slots that lists hold
pub list_slots : (body : List ℕ) (p : ColumnRanges) (i j : ℕ) → AreSlots (one body p) i j → i < j → (out-ColumnRanges p).layout ≡ l.Lists
    → AreSlots (part_columns body (out-ColumnRanges p).children.items) (offset_position (own_column body p).offsets i)
    (offset_position (own_column body p).offsets j)
list_slots body p i j h m e =
    let nested : is_nested (own_column body p).layout ≡ true = ap is_nested e in
    subst (λ (x : Layout). AreSlots (part_columns body (out-ColumnRanges p).children.items) (child_slot x (own_column body p).offsets i)
    (child_slot x (own_column body p).offsets j)) e
    (slots_below (own_column body p) (part_columns body (out-ColumnRanges p).children.items) i j (part_slots body p i j h) m nested)

-- the slots that lists of a fixed size hold
pub fixed_slots : (body : List ℕ) (p : ColumnRanges) (i j size : ℕ) → AreSlots (one body p) i j → i < j
    → (out-ColumnRanges p).layout ≡ l.FixedLists size
    → AreSlots (part_columns body (out-ColumnRanges p).children.items) (size * i) (size * j)
fixed_slots body p i j size h m e =
    let nested : is_nested (own_column body p).layout ≡ true = ap is_nested e in
    subst (λ (x : Layout). AreSlots (part_columns body (out-ColumnRanges p).children.items) (child_slot x (own_column body p).offsets i)
    (child_slot x (own_column body p).offsets j)) e
    (slots_below (own_column body p) (part_columns body (out-ColumnRanges p).children.items) i j (part_slots body p i j h) m nested)

-- the slots of the children of structs
pub struct_slots : (body : List ℕ) (p : ColumnRanges) (i j : ℕ) → AreSlots (one body p) i j → i < j
    → (out-ColumnRanges p).layout ≡ l.Structs
    → AreSlots (part_columns body (out-ColumnRanges p).children.items) i j
struct_slots body p i j h m e =
    let nested : is_nested (own_column body p).layout ≡ true = ap is_nested e in
    subst (λ (x : Layout). AreSlots (part_columns body (out-ColumnRanges p).children.items) (child_slot x (own_column body p).offsets i)
    (child_slot x (own_column body p).offsets j)) e
    (slots_below (own_column body p) (part_columns body (out-ColumnRanges p).children.items) i j (part_slots body p i j h) m nested)

-- what is below a part, by its fields
pub weight_is : (body : List ℕ) (p : ColumnRanges) (i j : ℕ)
    → visits_below (column_of body p).layout (visits (children_of body p)) (column_of body p).offsets i j
    ≡ visits_below (out-ColumnRanges p).layout (visits (part_columns body (out-ColumnRanges p).children.items)) (own_column body p).offsets
    i j
weight_is body p i j =
    ap (λ (c : Column). visits_below c.layout (visits (children_of body p)) c.offsets i j) (column_is body p)
    ∙ ap (λ (cs : Columns). visits_below (out-ColumnRanges p).layout (visits cs) (own_column body p).offsets i j) (children_out body p)

pub list_weight : (body : List ℕ) (p : ColumnRanges) (i j : ℕ) → (out-ColumnRanges p).layout ≡ l.Lists
    → visits_below (column_of body p).layout (visits (children_of body p)) (column_of body p).offsets i j
    ≡ visits (part_columns body (out-ColumnRanges p).children.items) (offset_position (own_column body p).offsets i)
    (offset_position (own_column body p).offsets j)
list_weight body p i j e = weight_is body p i j
    ∙ ap (λ (x : Layout). visits_below x (visits (part_columns body (out-ColumnRanges p).children.items)) (own_column body p).offsets i j) e

pub fixed_weight : (body : List ℕ) (p : ColumnRanges) (i j size : ℕ) → (out-ColumnRanges p).layout ≡ l.FixedLists size
    → visits_below (column_of body p).layout (visits (children_of body p)) (column_of body p).offsets i j
    ≡ visits (part_columns body (out-ColumnRanges p).children.items) (size * i) (size * j)
fixed_weight body p i j size e = weight_is body p i j
    ∙ ap (λ (x : Layout). visits_below x (visits (part_columns body (out-ColumnRanges p).children.items)) (own_column body p).offsets i j) e

-- what is below lists of a fixed size, from where the slots of the first begin to where those of the last end
pub fixed_weight_between : (body : List ℕ) (p : ColumnRanges) (i j size first last : ℕ)
    → (out-ColumnRanges p).layout ≡ l.FixedLists size → i < j
    → (0 < length (out-ColumnRanges p).children.items → first ≡ size * i)
    → (0 < length (out-ColumnRanges p).children.items → last ≡ size * (j - 1))
    → visits_below (column_of body p).layout (visits (children_of body p)) (column_of body p).offsets i j
    ≡ visits (part_columns body (out-ColumnRanges p).children.items) first (last + size)
unfolding visits
fixed_weight_between body p i j size first last e l f g =
    fixed_weight body p i j size e ∙ between_weight (out-ColumnRanges p).children.items f g
  where
    between_weight : (ps : List ColumnRanges) → (0 < length ps → first ≡ size * i) → (0 < length ps → last ≡ size * (j - 1))
        → visits (part_columns body ps) (size * i) (size * j) ≡ visits (part_columns body ps) first (last + size)
    between_weight [] f g = refl
    between_weight (q ∷ qs) f g =
        let some : 0 < length (q ∷ qs) = omega arith in
        rw (f some, fixed_end size j last i l (g some)) refl

pub struct_weight : (body : List ℕ) (p : ColumnRanges) (i j : ℕ) → (out-ColumnRanges p).layout ≡ l.Structs
    → visits_below (column_of body p).layout (visits (children_of body p)) (column_of body p).offsets i j
    ≡ visits (part_columns body (out-ColumnRanges p).children.items) i j
struct_weight body p i j e = weight_is body p i j
    ∙ ap (λ (x : Layout). visits_below x (visits (part_columns body (out-ColumnRanges p).children.items)) (own_column body p).offsets i j) e

pub range_is : (why : Fault) (body : List ℕ) (p : ColumnRanges) (i j : ℕ)
    → range_good (column_of body p).layout (good why (children_of body p)) (column_of body p).offsets i j
    ≡ range_good (out-ColumnRanges p).layout (good why (part_columns body (out-ColumnRanges p).children.items)) (own_column body p).offsets
    i j
range_is why body p i j =
    ap (λ (c : Column). range_good c.layout (good why (children_of body p)) c.offsets i j) (column_is body p)
    ∙ ap (λ (cs : Columns). range_good (out-ColumnRanges p).layout (good why cs) (own_column body p).offsets i j) (children_out body p)

-- what lists of a fixed size lead to, the same
pub fixed_good_between : (why : Fault) (body : List ℕ) (p : ColumnRanges) (i j size first last : ℕ)
    → (out-ColumnRanges p).layout ≡ l.FixedLists size → i < j
    → (0 < length (out-ColumnRanges p).children.items → first ≡ size * i)
    → (0 < length (out-ColumnRanges p).children.items → last ≡ size * (j - 1))
    → good why (part_columns body (out-ColumnRanges p).children.items) first (last + size)
    ≡ range_good (column_of body p).layout (good why (children_of body p)) (column_of body p).offsets i j
fixed_good_between why body p i j size first last e l f g =
    between_good (out-ColumnRanges p).children.items f g
    ∙ sym (range_is why body p i j
    ∙ ap (λ (x : Layout). range_good x (good why (part_columns body (out-ColumnRanges p).children.items)) (own_column body p).offsets i j)
    e)
  where
    between_good : (ps : List ColumnRanges) → (0 < length ps → first ≡ size * i) → (0 < length ps → last ≡ size * (j - 1))
        → good why (part_columns body ps) first (last + size) ≡ good why (part_columns body ps) (size * i) (size * j)
    between_good [] f g = refl
    between_good (q ∷ qs) f g =
        let some : 0 < length (q ∷ qs) = omega arith in
        rw (f some, fixed_end size j last i l (g some)) refl

pub list_good : (why : Fault) (body : List ℕ) (p : ColumnRanges) (i j : ℕ) → (out-ColumnRanges p).layout ≡ l.Lists
    → range_good (column_of body p).layout (good why (children_of body p)) (column_of body p).offsets i j
    ≡ good why (part_columns body (out-ColumnRanges p).children.items) (offset_position (own_column body p).offsets i) (offset_position
    (own_column body p).offsets j)
list_good why body p i j e = range_is why body p i j
    ∙ ap (λ (x : Layout). range_good x (good why (part_columns body (out-ColumnRanges p).children.items)) (own_column body p).offsets i j) e

pub struct_good : (why : Fault) (body : List ℕ) (p : ColumnRanges) (i j : ℕ) → (out-ColumnRanges p).layout ≡ l.Structs
    → range_good (column_of body p).layout (good why (children_of body p)) (column_of body p).offsets i j
    ≡ good why (part_columns body (out-ColumnRanges p).children.items) i j
struct_good why body p i j e = range_is why body p i j
    ∙ ap (λ (x : Layout). range_good x (good why (part_columns body (out-ColumnRanges p).children.items)) (own_column body p).offsets i j) e

leaf_slot : (layout : Layout) (o : List ℕ) (k : ℕ) → is_nested layout ≡ false → child_slot layout o k ≡ k
leaf_slot l.Lists o k n = absurd (false≢true (sym n))
leaf_slot (l.FixedLists size) o k n = absurd (false≢true (sym n))
leaf_slot _ o k n = refl

-- the slots below those of a range rise with them
pub rising : (c : Column) (children : Columns) (i j : ℕ) → AreSlots (column c children none) i j → (k : ℕ) → i ≤ k → k < j
    → child_slot c.layout c.offsets k ≤ child_slot c.layout c.offsets (k + 1)
rising c children i j h k a b =
    elim (is_nested c.layout) as (λ v. is_nested c.layout ≡ v → child_slot c.layout c.offsets k ≤ child_slot c.layout c.offsets (k + 1)) [
      | true ↦ λ n. (slots_below c children k (k + 1) (slots_within (column c children none) i j k (k + 1) h (omega arith) (omega arith))
          (omega arith) n).order
      | false ↦ λ n.
          let x = leaf_slot c.layout c.offsets k n in
          let y = leaf_slot c.layout c.offsets (k + 1) n in
          omega (arith, x, y)
    ] refl

-- without a bitmap, what a part's slots lead to is what they are
pub whole_part : (why : Fault) (body : List ℕ) (p : ColumnRanges) (i j : ℕ) → AreSlots (one body p) i j
    → needs_slot_checks (out-ColumnRanges p).layout ≡ false
    → length (own_column body p).validity ≡ 0
    → range_good (column_of body p).layout (good why (children_of body p)) (column_of body p).offsets i j ≡ good why (one body p) i j
whole_part why body p i j h t v =
    range_whole why (column_of body p) (children_of body p) i j (ap needs_slot_checks (layout_is body p) ∙ t)
    (ap (λ (c : Column). length c.validity) (column_is body p) ∙ v) h.order (rising (column_of body p) (children_of body p) i j h)

or_true : (a : Bool) → (a || true) ≡ true
or_true true = refl
or_true false = refl

-- a part with a bitmap that texts or indices stand below is visited
pub visited_below : (body : List ℕ) (p : ColumnRanges) → (length (own_column body p).validity == 0) ≡ false
    → have_slot_checks (part_columns body (out-ColumnRanges p).children.items) ≡ true
    → has_slot_visits (column_of body p) (children_of body p) ≡ true
visited_below body p v t =
    part_back (λ c cs. has_slot_visits c cs ≡ true) body p (rw (v, t) (or_true (needs_slot_checks (out-ColumnRanges p).layout)))

-- a part of texts or indices is visited
pub visited_judged : (body : List ℕ) (p : ColumnRanges) → needs_slot_checks (column_of body p).layout ≡ true
    → has_slot_visits (column_of body p) (children_of body p) ≡ true
visited_judged body p t = rw t refl

-- texts are judged
pub texts_judged : (layout : Layout) → is_texts layout ≡ true → needs_slot_checks layout ≡ true
texts_judged (l.VariableBytes true) e = refl
texts_judged _ e = absurd (false≢true e)

-- and so are indices
pub indices_judged : (layout : Layout) (bits : IntBits) (signed : Bool) → IsIndexed layout bits signed → needs_slot_checks layout ≡ true
indices_judged layout bits signed e = rw e.1 refl

-- texts or indices stand in a part or below it as its own layout and its children say
pub judged_is : (body : List ℕ) (p : ColumnRanges)
    → have_slot_checks (one body p) ≡ (needs_slot_checks (out-ColumnRanges p).layout
    || have_slot_checks (part_columns body (out-ColumnRanges p).children.items))
judged_is body p =
    ap (λ (x : Layout). needs_slot_checks x || (have_slot_checks (children_of body p) || false)) (layout_is body p)
    ∙ (ap (λ (cs : Columns). needs_slot_checks (out-ColumnRanges p).layout || (have_slot_checks cs || false)) (children_out body p)
    ∙ ap (λ (b : Bool). needs_slot_checks (out-ColumnRanges p).layout || b)
    (or_false (have_slot_checks (part_columns body (out-ColumnRanges p).children.items))))
  where
    or_false : (a : Bool) → (a || false) ≡ a
    or_false true = refl
    or_false false = refl

-- a part without texts or indices in it or below it is good
pub quiet_part : (why : Fault) (body : List ℕ) (p : ColumnRanges) (i j : ℕ) → needs_slot_checks (out-ColumnRanges p).layout ≡ false
    → have_slot_checks (part_columns body (out-ColumnRanges p).children.items) ≡ false → good why (one body p) i j ≡ true
quiet_part why body p i j t h = quiet_good why (one body p) i j (judged_is body p ∙ rw (t, h) refl)

-- the slots of a part of texts
pub texts_part : (body : List ℕ) (p : ColumnRanges) (i j : ℕ) → is_texts (column_of body p).layout ≡ true
    → all_slots (text_good (own_column body p).validity (own_column body p).offsets (own_column body p).values) i (j - i)
    ≡ good fault.ValueNotUtf8 (one body p) i j
texts_part body p i j t =
    texts_good (own_column body p) (children_of body p) i j (ap is_texts (sym (layout_is body p)) ∙ t)
    ∙ ap (λ (c : Column). good fault.ValueNotUtf8 (column c (children_of body p) none) i j) (sym (column_is body p))

-- and where they are UTF-8
pub texts_pass_part : (body : List ℕ) (p : ColumnRanges) (i j : ℕ) → is_texts (column_of body p).layout ≡ true
    → all_slots (text_good (own_column body p).validity (own_column body p).offsets (own_column body p).values) i (j - i) ≡ true
    → (why : Fault) → good why (one body p) i j ≡ true
texts_pass_part body p i j t h why =
    subst (λ (c : Column). good why (column c (children_of body p) none) i j ≡ true) (sym (column_is body p))
    (texts_pass (own_column body p) (children_of body p) i j (ap is_texts (sym (layout_is body p)) ∙ t) h why)

indexed_is : (body : List ℕ) (p : ColumnRanges) (bits : IntBits) (signed : Bool) → IsIndexed (column_of body p).layout bits signed
    → IsIndexed (own_column body p).layout bits signed
indexed_is body p bits signed e = (e.0, sym (layout_is body p) ∙ e.1)

-- the slots of a part of indices
pub indices_part : (body : List ℕ) (p : ColumnRanges) (bits : IntBits) (signed : Bool) (i j : ℕ)
    → IsIndexed (column_of body p).layout bits signed
    → all_slots (index_good (own_column body p).validity bits signed (length (out-ColumnRanges p).dictionary) (own_column body p).values)
    i (j - i) ≡ good fault.BadIndex (one body p) i j
indices_part body p bits signed i j e =
    indices_good (own_column body p) (children_of body p) bits signed i j (indexed_is body p bits signed e)
    ∙ ap (λ (c : Column). good fault.BadIndex (column c (children_of body p) none) i j) (sym (column_is body p))

-- and where they are those of values
pub indices_pass_part : (body : List ℕ) (p : ColumnRanges) (bits : IntBits) (signed : Bool) (i j : ℕ)
    → IsIndexed (column_of body p).layout bits signed
    → all_slots (index_good (own_column body p).validity bits signed (length (out-ColumnRanges p).dictionary) (own_column body p).values)
    i (j - i) ≡ true → (why : Fault) → good why (one body p) i j ≡ true
indices_pass_part body p bits signed i j e h why =
    subst (λ (c : Column). good why (column c (children_of body p) none) i j ≡ true) (sym (column_is body p))
    (indices_pass (own_column body p) (children_of body p) bits signed i j (indexed_is body p bits signed e) h why)

-- the bytes of the indices up to a slot are there
pub indices_bytes : (body : List ℕ) (p : ColumnRanges) (bits : IntBits) (signed : Bool) (i j : ℕ) → AreSlots (one body p) i j → i < j
    → IsIndexed (column_of body p).layout bits signed → number_bytes bits * j ≤ length (own_column body p).values
indices_bytes body p bits signed i j h m e =
    let most = part_most body p i j h in
    let held = leb-true _ _ (subst (λ (x : Layout). holds_values x (out-ColumnRanges p).slots (length (own_column body p).values) ≡ true)
    (indexed_is body p bits signed e).1 (part_long body p i j h).values) in
    let less : number_bytes bits * j ≤ number_bytes bits * (out-ColumnRanges p).slots = mul-le-mul_left (number_bytes bits) most in
    omega (arith, held, less)

pub texts_of : (body : List ℕ) (p : ColumnRanges) (i j : ℕ) → AreSlots (one body p) i j → i < j
    → is_texts (out-ColumnRanges p).layout ≡ true → TextParts (own_column body p)
texts_of body p i j h m t =
    let most = part_most body p i j h in
    text_parts (own_column body p) (part_columns body (out-ColumnRanges p).children.items) (part_long body p i j h) t (omega arith)

-- behind the last part all is good
pub good_done : (why : Fault) (body : List ℕ) (ps : List ColumnRanges) (i a b : ℕ) → length ps ≤ i
    → good why (part_columns body (drop i ps)) a b ≡ true
good_done why body ps i a b h = rw (drop_all i ps h) refl

-- each test of a column
pub all_pass_from : (c : Column) (children : Columns) → passes fault.BufferTooShort c children ≡ true
    → passes fault.BadNullCount c children ≡ true → passes fault.BadOffsets c children ≡ true → passes fault.BadNode c children ≡ true
    → (why : Fault) → passes why c children ≡ true
all_pass_from c children a b d e fault.BufferTooShort = a
all_pass_from c children a b d e fault.BadNullCount = b
all_pass_from c children a b d e fault.BadOffsets = d
all_pass_from c children a b d e fault.BadNode = e
all_pass_from c children a b d e _ = refl

-- where what a part's slots lead to is good, they are
pub enough_part : (why : Fault) (body : List ℕ) (p : ColumnRanges) (i j : ℕ) → AreSlots (one body p) i j
    → needs_slot_checks (out-ColumnRanges p).layout ≡ false
    → range_good (column_of body p).layout (good why (children_of body p)) (column_of body p).offsets i j ≡ true
    → good why (one body p) i j ≡ true
enough_part why body p i j h t =
    range_enough why (column_of body p) (children_of body p) i j (ap needs_slot_checks (layout_is body p) ∙ t) h.order
    (rising (column_of body p) (children_of body p) i j h)

-- what is neither texts nor indices isn't judged
pub not_judged : (layout : Layout) → is_texts layout ≡ false → ((bits : IntBits) (signed : Bool) (id : ℤ)
    → ¬ (layout ≡ l.Indices bits signed id))
    → needs_slot_checks layout ≡ false
not_judged (l.VariableBytes true) t n = absurd (false≢true (sym t))
not_judged (l.Indices bits signed id) t n = absurd (n bits signed id refl)
not_judged _ t n = refl
