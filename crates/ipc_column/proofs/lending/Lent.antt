-- Numbers that are lent are those of the slots.
use Rattle.std.proofs.Common.{◌≡◌, ◌∙◌, refl, sym, ap, subst, ℕ, zero, suc, ◌+◌, ◌<◌, Bool, true, false, List, [], ◌∷◌, length, map}
use Rattle.std.proofs.Common.{get_or, arith, Some}
use Rattle.std.specs.Prelude.{slice_get}
use Rattle.std.proofs.lemmas.Bool.{leb-true}
use Rattle.ipc_meta.specs.declared.head.BatchHead.{BatchHead}
use Rattle.ipc_model.specs.declared.schema.Field.{Field}
use Rattle.ipc_model.specs.declared.schema.IntBits.{IntBits}
use Rattle.ipc_model.specs.declared.value.Value.{Value}
use Rattle.ipc_model.specs.declared.layout.Layout.{Layout}
use Rattle.ipc_model.specs.declared.layout.Layout.TheVariants as l
use Rattle.ipc_model.specs.Layouts.{own_buffers}
use Rattle.ipc_column.specs.declared.buffers.Numbers.{Numbers}
use Rattle.ipc_column.specs.declared.ranges.ColumnRanges.{ColumnRanges}
use Rattle.ipc_column.specs.checks.Checks.{PassTests, holds_values}
use Rattle.ipc_column.specs.Columns.{Column, Columns}
use Rattle.ipc_column.specs.Dictionaries.{Dictionaries}
use Rattle.ipc_column.specs.Lending.{AreNumbers, layouts_of, lent_number}
use Rattle.ipc_column.specs.Lent.{AreFound, AreOfColumn, HoldSlots, without_null_count, values_in}
use Rattle.ipc_column.specs.Nested.{Nested, only_column, found_columns, slot_values, with_children}
use Rattle.ipc_column.specs.checks.Rules.{HasUtf8Texts}
use Rattle.ipc_column.specs.Shapes.{shape_of, assigned_columns, field_layout, child_shape, node_count, buffer_count}
use Rattle.ipc_column.specs.Slots.{nested}
use Rattle.ipc_column.specs.Values.{own_value, row, rows_of, value_of}
use Rattle.ipc_column.specs.Views.{part_columns, column_of, children_of}
use Rattle.ipc_column.specs.declared.ranges.ColumnRanges.TheViews.{out-ColumnRanges}
use Rattle.ipc_column.proofs.Found.{column_holds, column_rows}
use Rattle.ipc_column.proofs.visited.Leads.{found_from, slot_shows, slots_spell}
use Rattle.ipc_column.proofs.Parts.{children_out}
use Rattle.ipc_column.proofs.lending.Slots.{items_length}

-- columns that fields cut out lie as these say
pub layouts_cut : (m : Dictionaries) (fs : List Field) (h : BatchHead) (body : List ℕ) (n b : ℕ)
    → layouts_of (assigned_columns m (shape_of fs) h body n b) ≡ map field_layout fs
unfolding assigned_columns
layouts_cut m [] h body n b = refl
layouts_cut m (f ∷ fs) h body n b =
    ap (λ (ls : List Layout). field_layout f ∷ ls) (layouts_cut m fs h body (n + 1 + node_count (child_shape f))
    (b + own_buffers (field_layout f) + buffer_count (child_shape f)))

-- how the column of a part lies
pub layout_at : (body : List ℕ) (ps : List ColumnRanges) (j : ℕ) (p : ColumnRanges) → j < length ps → p ≡ get_or ps j p
    → slice_get (layouts_of (part_columns body ps)) j ≡ Some (column_of body p).layout
layout_at body [] j p l e = absurd (omega arith)
layout_at body (q ∷ ps) zero p l e = ap (λ (x : ColumnRanges). Some (column_of body x).layout) (sym e)
layout_at body (q ∷ ps) (suc j) p l e = layout_at body ps j p (omega arith) e

-- how parts lie, one by one
pub nested_layouts : (body : List ℕ) (ps : List ColumnRanges)
    → map (λ (n : Nested). n.column.layout) (map (nested body) ps) ≡ layouts_of (part_columns body ps)
nested_layouts body [] = refl
nested_layouts body (p ∷ ps) = ap (λ (ls : List Layout). (column_of body p).layout ∷ ls) (nested_layouts body ps)

-- the columns of parts, one by one
pub nested_columns : (body : List ℕ) (ps : List ColumnRanges)
    → map with_children (map (nested body) ps) ≡ found_columns (part_columns body ps)
nested_columns body [] = refl
nested_columns body (p ∷ ps) =
    ap (λ (cs : Columns). (without_null_count (column_of body p), cs) ∷ map with_children (map (nested body) ps))
    (sym (children_out body p))
    ∙ ap (λ (rest : List (Column × Columns)). (without_null_count (column_of body p), children_of body p) ∷ rest) (nested_columns body ps)

-- nothing but its bytes is asked for a number
alike : (bits : IntBits) (signed : Bool) (d : List Value) (below : ℕ → List Value) (o w : List ℕ) (i : ℕ)
    → own_value (l.Numbers bits signed) d below o w i ≡ own_value (l.Numbers bits signed) [] (λ _. []) [] w i
alike bits true d below o w i = refl
alike bits false d below o w i = refl

-- the numbers of a column that is seen so
pub lent_numbers : (c : Column) (body : List ℕ) (ps : List ColumnRanges) (n : Nested) (numbers : Numbers)
    → record { column = c; body = body; children = ps } ≡ n → c.layout ≡ l.Numbers numbers.bits numbers.signed
    → c.validity ≡ numbers.validity.now → c.values ≡ numbers.values.now → holds_values c.layout c.slots (length c.values) ≡ true
    → AreNumbers n numbers
lent_numbers c body ps n numbers e el ev ew h =
    let size : length (slot_values n) ≡ c.slots =
    ap (λ (n : Nested). length (slot_values n)) (sym e) ∙ items_length (value_of (row (part_columns body ps)) c) 0 c.slots in
    record {
      layout = ap (λ (n : Nested). n.column.layout) (sym e) ∙ el;
      long = rw (size, ← ew) (leb-true _ _ (subst (λ (x : Layout). holds_values x c.slots (length c.values) ≡ true) el h));
      each = λ i m. slot_shows c body ps n i e m ∙ ap (λ (x : Value). Some x) (value i);
    }
  where
    value : (i : ℕ) → value_of (row (part_columns body ps)) c i ≡ lent_number numbers i
    value i = rw (el, ev, ew, alike numbers.bits numbers.signed c.dictionary (row (part_columns body ps)) c.offsets numbers.values.now i)
        refl

module _ (body : List ℕ) (ps : List ColumnRanges) (n j : ℕ) (p : ColumnRanges) (inside : j < length ps) (is : p ≡ get_or ps j p)
    (holds : PassTests n (part_columns body ps)) where
  pub slots_found : AreFound (column_of body p) (children_of body p)
  slots_found = found_from _ _ (column_holds body ps n j p inside is holds)

  pub slots_values : AreOfColumn (rows_of (part_columns body ps) n) j (slot_values (nested body p))
  slots_values =
      subst (λ (cs : Columns). AreOfColumn (rows_of (part_columns body ps) n) j (values_in (without_null_count (column_of body p)) cs))
      (children_out body p) (column_rows body ps n j p inside is holds)

  pub slots_texts : (i : ℕ) → i < length (slot_values (nested body p)) → HasUtf8Texts (only_column (nested body p)) i
  slots_texts =
      slots_spell (without_null_count (column_of body p)) body (out-ColumnRanges p).children.items (nested body p)
      (slot_values (nested body p)) refl refl refl
      (subst (λ (cs : Columns). HoldSlots (without_null_count (column_of body p)) cs) (children_out body p)
      (again (column_holds body ps n j p inside is holds))) refl
    where
      again : HoldSlots (column_of body p) (children_of body p) → HoldSlots (without_null_count (column_of body p)) (children_of body p)
      again h = record {
        bitmap = h.bitmap;
        values = h.values;
        offsets = h.offsets;
        order = h.order;
        long = h.long;
        sound = h.sound;
        good = h.good;
      }
