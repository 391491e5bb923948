-- Lists of a fixed size: the slots of the child that they hold, as the code finds them.
use Rattle.std.proofs.Common.{◌≡◌, ◌∙◌, refl, sym, ap, subst, ℕ, zero, suc, ◌+◌, ◌-◌, ◌*◌, ◌<◌, ◌≤◌, true, List, [], ◌∷◌}
use Rattle.std.proofs.Common.{length, get_or, arith, nat_le}
use Rattle.std.proofs.Math.Nat.{mul-le-mul_left}
use Rattle.std.proofs.lemmas.Bool.{leb-true}
use Rattle.ipc_model.specs.declared.value.Value.{Value}
use Rattle.ipc_model.specs.declared.value.Value.TheVariants as v
use Rattle.ipc_model.specs.declared.layout.Layout.TheVariants as l
use Rattle.ipc_column.specs.declared.ranges.ColumnRanges.{ColumnRanges}
use Rattle.ipc_column.specs.declared.ranges.ColumnRanges.TheViews.{out-ColumnRanges}
use Rattle.ipc_column.specs.Columns.{Column, none}
use Rattle.ipc_column.specs.Values.{values_from, first_at}
use Rattle.ipc_column.specs.checks.Checks.{children_have_slots}
use Rattle.ipc_column.specs.checks.Checks.{have_slots}
use Rattle.ipc_column.specs.Lent.{AreSlots, HaveValues}
use Rattle.ipc_column.specs.Views.{part_columns, column_of}
use Rattle.ipc_column.proofs.Parts.{column_is, every_top_at}
use Rattle.ipc_column.proofs.visited.Goods.{fewer_slots}

-- slots that parts have don't depend on the body
pub slots_any : (n : ℕ) (body other : List ℕ) (ps : List ColumnRanges) → have_slots n (part_columns body ps)
    ≡ have_slots n (part_columns other ps)
slots_any n body other [] = refl
slots_any n body other (p ∷ ps) =
    let e : (column_of body p).slots ≡ (column_of other p).slots = ap (λ (c : Column). c.slots) (column_is body p)
    ∙ sym (ap (λ (c : Column). c.slots) (column_is other p)) in
    rw (e, slots_any n body other ps) refl

-- the first of the parts has the slots that all have
pub slots_of_first : (n : ℕ) (ps : List ColumnRanges) (p : ColumnRanges) → ((body : List ℕ) → have_slots n (part_columns body ps) ≡ true)
    → 0 < length ps → p ≡ get_or ps 0 p → n ≤ (out-ColumnRanges p).slots
slots_of_first n ps p h l e =
    let own : nat_le n (column_of [] p).slots ≡ true = every_top_at (λ c. nat_le n c.slots) [] ps 0 p l e (h []) in
    let same : (column_of [] p).slots ≡ (out-ColumnRanges p).slots = ap (λ (c : Column). c.slots) (column_is [] p) in
    subst (λ (k : ℕ). n ≤ k) same (leb-true n (column_of [] p).slots own)

-- the child has the slots before those of each list of a fixed size
pub fixed_before : (body : List ℕ) (ps : List ColumnRanges) (n : ℕ) → have_slots n (part_columns body ps) ≡ true → (i : ℕ) → i ≤ n
    → (other : List ℕ) → have_slots i (part_columns other ps) ≡ true
fixed_before body ps n h i l other = slots_any i other body ps ∙ fewer_slots (part_columns body ps) i n l h

-- and those of each of so many
pub fixed_place_have : (body : List ℕ) (ps : List ColumnRanges) (size n i : ℕ) → i < n
    → children_have_slots (l.FixedLists size) n (part_columns body ps) ≡ true
    → (other : List ℕ) → have_slots (size * (i + 1)) (part_columns other ps) ≡ true
fixed_place_have body ps size n i l h =
    fixed_before body ps (size * n) h (size * (i + 1)) (mul-le-mul_left size (let m : i + 1 ≤ n = omega arith in m))

-- the last of several lists of a fixed size ends where the next would begin
pub fixed_end : (size j last i : ℕ) → i < j → last ≡ size * (j - 1) → last + size ≡ size * j
fixed_end size j last i l e =
    let m : size * (j - 1 + 1) ≡ size * j = ap (λ (k : ℕ). size * k) (let n : j - 1 + 1 ≡ j = omega arith in n) in
    omega (arith, e, m)

-- the slots of a list of a fixed size have values, from where they begin
pub fixed_have : (body : List ℕ) (ps : List ColumnRanges) (size i first : ℕ) → (0 < length ps → first ≡ size * i)
    → HaveValues (part_columns body ps) (size * i) (size * (i + 1)) → HaveValues (part_columns body ps) first (first + size)
fixed_have body [] size i first e h = record {
  slots = record { order = omega arith; within = refl; sound = λ why. refl };
  good = refl;
}
fixed_have body (p ∷ ps) size i first e h =
    let same : size * i ≡ first = sym (e (omega arith)) in
    let end : size * (i + 1) ≡ first + size = omega (arith, same) in
    subst (λ (k : ℕ). HaveValues (part_columns body (p ∷ ps)) first k) end
    (subst (λ (k : ℕ). HaveValues (part_columns body (p ∷ ps)) k (size * (i + 1))) same h)

-- without a child each value is null
nulls_same : (n a b : ℕ) → values_from (first_at none) a n ≡ values_from (first_at none) b n
nulls_same zero a b = refl
nulls_same (suc n) a b = ap (λ (vs : List Value). v.Null ∷ vs) (nulls_same n (a + 1) (b + 1))

-- the values of a list of a fixed size, from where its slots begin
pub fixed_items : (body : List ℕ) (ps : List ColumnRanges) (size i first : ℕ) → (0 < length ps → first ≡ size * i)
    → values_from (first_at (part_columns body ps)) first (first + size - first)
    ≡ values_from (first_at (part_columns body ps)) (size * i) size
fixed_items body [] size i first e = let n : first + size - first ≡ size = omega arith in rw n (nulls_same size first (size * i))
fixed_items body (p ∷ ps) size i first e =
    let n : first + size - first ≡ size = omega arith in
    rw n (ap (λ (k : ℕ). values_from (first_at (part_columns body (p ∷ ps))) k size) (e (omega arith)))

-- the slots of the child that lists of a fixed size lead to
pub fixed_child : (body : List ℕ) (ps : List ColumnRanges) (size i j first last : ℕ) → (0 < length ps → first ≡ size * i)
    → (length ps ≡ 0 → first ≡ 0) → (0 < length ps → last ≡ size * (j - 1)) → i < j
    → AreSlots (part_columns body ps) (size * i) (size * j) → AreSlots (part_columns body ps) first (last + size)
fixed_child body [] size i j first last e z f l h =
    let start = z (omega arith) in
    record { order = omega (arith, start); within = refl; sound = λ why. refl }
fixed_child body (p ∷ ps) size i j first last e z f l h =
    let same : size * i ≡ first = sym (e (omega arith)) in
    let end : size * j ≡ last + size = sym (fixed_end size j last i l (f (omega arith))) in
    subst (λ (k : ℕ). AreSlots (part_columns body (p ∷ ps)) first k) end
    (subst (λ (k : ℕ). AreSlots (part_columns body (p ∷ ps)) k (size * j)) same h)
