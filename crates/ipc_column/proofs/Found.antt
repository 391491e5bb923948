-- Columns whose buffers were found.
use Rattle.std.proofs.Common.{◌≡◌, ◌∙◌, sym, ap, subst, ℕ, ◌+◌, ◌<◌, List, length, get_or, arith, Some, []}
use Rattle.std.specs.Prelude.{slice_get}
use Rattle.std.proofs.lemmas.Bool.{and_parts, eqb-true}
use Rattle.ipc_model.specs.declared.value.Value.{Value}
use Rattle.ipc_model.specs.declared.fault.Fault.TheVariants as fault
use Rattle.ipc_column.specs.declared.ranges.ColumnRanges.{ColumnRanges}
use Rattle.ipc_column.specs.declared.ranges.ColumnRanges.TheViews.{out-ColumnRanges}
use Rattle.ipc_column.specs.Columns.{Column, Columns}
use Rattle.ipc_column.specs.checks.Checks.{passes, top_passes, PassTests}
use Rattle.ipc_column.specs.Lent.{HoldSlots, AreOfColumn, column_of_buffers, without_null_count, values_in}
use Rattle.ipc_column.specs.Values.{row, rows_of, value_of, values_from}
use Rattle.ipc_column.specs.Views.{part_columns, column_of, children_of}
use Rattle.ipc_column.specs.Spans.{span_bytes}
use Rattle.ipc_column.proofs.Cells.{row_cell, rows_at, rows_length}
use Rattle.ipc_column.proofs.Parts.{own_column, children_out, column_is, every_at, every_top_at}
use Rattle.ipc_column.proofs.lending.Slots.{long, slot_value, row_values, items_length, items_at}

from_zero : (i : ℕ) → 0 + i ≡ i
from_zero i = omega arith

-- the values of slots from the first on
pub items_first : (f : ℕ → Value) (n k : ℕ) → k < n → slice_get (values_from f 0 n) k ≡ Some (f k)
items_first f n k l = items_at f 0 n k l ∙ ap (λ (j : ℕ). Some (f j)) (from_zero k)

-- a column of parts that give n rows has n slots
pub column_slots : (body : List ℕ) (ps : List ColumnRanges) (n j : ℕ) (p : ColumnRanges) → j < length ps → p ≡ get_or ps j p
    → PassTests n (part_columns body ps) → (column_of body p).slots ≡ n
column_slots body ps n j p l e h =
    eqb-true _ _ (every_top_at (top_passes fault.BadNode n) body ps j p l e (and_parts _ _ (and_parts _ _ (h fault.BadNode)).1).0)

-- its buffers have what its slots need
pub column_holds : (body : List ℕ) (ps : List ColumnRanges) (n j : ℕ) (p : ColumnRanges) → j < length ps → p ≡ get_or ps j p
    → PassTests n (part_columns body ps) → HoldSlots (column_of body p) (children_of body p)
column_holds body ps n j p l e h =
    let own = long (column_of body p) (children_of body p) (λ why. (every_at (passes why) body ps j p l e (and_parts _ _ (h why)).0).0) in
    let size = column_slots body ps n j p l e h in
    record {
      bitmap = own.bitmap;
      values = own.values;
      offsets = own.offsets;
      order = own.order;
      long = own.long;
      sound = λ why. (every_at (passes why) body ps j p l e (and_parts _ _ (h why)).0).1;
      good = λ i m.
          (slot_value body ps i (i + 1) i j p l e (omega arith) (omega arith)
          (row_values (part_columns body ps) n i (omega (arith, m, size)) h)).good;
    }

-- its values are those of its place in the rows
pub column_rows : (body : List ℕ) (ps : List ColumnRanges) (n j : ℕ) (p : ColumnRanges) → j < length ps → p ≡ get_or ps j p
    → PassTests n (part_columns body ps) → AreOfColumn (rows_of (part_columns body ps) n) j
    (values_in (column_of body p) (children_of body p))
column_rows body ps n j p l e h =
    let size = column_slots body ps n j p l e h in
    let all = rows_length (part_columns body ps) n in
    record {
      size = items_length (value_of (row (children_of body p)) (column_of body p)) 0 (column_of body p).slots ∙ (size ∙ sym all);
      each = λ i m.
          ap (λ (r : List Value). slice_get r j) (rows_at (part_columns body ps) n i [] (omega (arith, m, all)))
          ∙ (row_cell body ps i j p l e
          ∙ sym (items_first (value_of (row (children_of body p)) (column_of body p)) (column_of body p).slots i
          (omega (arith, m, all, size))));
    }

-- a part's column by the bytes that were found
pub found_is : (body : List ℕ) (p : ColumnRanges) (v o w : List ℕ) (d : List Value) → v ≡ span_bytes body (out-ColumnRanges p).validity
    → o ≡ span_bytes body (out-ColumnRanges p).offsets → w ≡ span_bytes body (out-ColumnRanges p).values
    → d ≡ (out-ColumnRanges p).dictionary
    → (P : Column → Columns → Type 0)
    → P (without_null_count (column_of body p)) (children_of body p)
    → P (column_of_buffers (out-ColumnRanges p).layout (out-ColumnRanges p).slots v o w d)
    (part_columns body (out-ColumnRanges p).children.items)
found_is body p v o w d ev eo ew ed P h =
    rw (ev, eo, ew, ed)
    (subst (λ (cs : Columns). P (without_null_count (own_column body p)) cs) (children_out body p)
    (subst (λ (c : Column). P (without_null_count c) (children_of body p)) (column_is body p) h))
