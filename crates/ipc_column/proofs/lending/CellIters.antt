-- Values that are lent one after another.
use Rattle.std.proofs.Common.{◌≡◌, ◌∙◌, refl, ap, subst, ℕ, suc, ◌+◌, ◌-◌, ◌<◌, List, ◌∷◌, Some, Option, arith}
use Rattle.std.specs.Prelude.{slice_get, unwrap_or}
use Rattle.std.proofs.lemmas.Bool.{and_parts}
use Rattle.ipc_model.specs.declared.value.Value.{Value}
use Rattle.ipc_model.specs.declared.fault.Fault.TheVariants as fault
use Rattle.ipc_column.specs.declared.ranges.ColumnRanges.{ColumnRanges}
use Rattle.ipc_column.specs.Columns.{Columns}
use Rattle.ipc_column.specs.Lent.{HaveValues, HasValue}
use Rattle.ipc_column.specs.Values.{values_from}
use Rattle.ipc_column.specs.Views.{part_columns, column_of, children_of}
use Rattle.ipc_column.proofs.visited.Goods.{good_within}
use Rattle.ipc_column.proofs.lending.Slots.{slot_value, slots_first, slots_within}

-- the first of the values of a range, and those behind it
pub items_then : (f : ℕ → Value) (i j : ℕ) (x : Value) → i < j → slice_get (values_from f i (j - i)) 0 ≡ Some x
    → values_from f i (j - i) ≡ x ∷ values_from f (i + 1) (j - (i + 1))
items_then f i j x l h =
    let e : j - i ≡ suc (j - (i + 1)) = omega arith in
    let first : f i ≡ x = ap (λ (o : Option Value). unwrap_or o x)
    (subst (λ (n : ℕ). slice_get (values_from f i n) 0 ≡ Some x) e h) in
    ap (λ (n : ℕ). values_from f i n) e ∙ ap (λ (y : Value). y ∷ values_from f (i + 1) (j - (i + 1))) first

-- the slots behind the first have values too
pub have_next : (cs : Columns) (i j : ℕ) → i < j → HaveValues cs i j → HaveValues cs (i + 1) j
have_next cs i j l h = record {
  slots = slots_within cs i j (i + 1) j h.slots (omega arith) (omega arith);
  good = good_within fault.ValueNotUtf8 cs i j (i + 1) j h.good (omega arith) (omega arith) (omega arith);
}

-- the first part has a value where all have
pub have_first : (body : List ℕ) (ps qs : List ColumnRanges) (p : ColumnRanges) (i j : ℕ) → i < j → ps ≡ p ∷ qs
    → HaveValues (part_columns body ps) i j → HasValue (column_of body p) (children_of body p) i
have_first body ps qs p i j l e h =
    slot_value body (p ∷ qs) i j i 0 p (omega arith) refl (omega arith) l
    (subst (λ (all : List ColumnRanges). HaveValues (part_columns body all) i j) e h)

-- and so have those behind it
pub have_others : (body : List ℕ) (ps qs : List ColumnRanges) (p : ColumnRanges) (i j : ℕ) → ps ≡ p ∷ qs
    → HaveValues (part_columns body ps) i j → HaveValues (part_columns body qs) i j
have_others body ps qs p i j e h =
    let all = subst (λ (all : List ColumnRanges). HaveValues (part_columns body all) i j) e h in
    record {
      slots = (slots_first (column_of body p) (children_of body p) (part_columns body qs) i j all.slots).1;
      good = (and_parts _ _ all.good).1;
    }
