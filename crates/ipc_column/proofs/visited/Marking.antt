-- A part that stores what was found of it, and nothing else new.
use Rattle.std.proofs.Common.{◌≡◌, ◌∙◌, refl, sym, ap, subst, ℕ, Bool, true, false, List, length, map, arith}
use Rattle.std.specs.Prelude.{nat_le}
use Rattle.std.specs.declared.vec.Vec.{Vec}
use Rattle.std.specs.Vec.{with_items}
use Rattle.std.proofs.lemmas.Bool.{and_from, and_parts, le-leb}
use Rattle.std.proofs.lemmas.List.{with_items_is}
use Rattle.ipc_model.specs.Layouts.{needs_slot_checks}
use Rattle.ipc_model.specs.declared.fault.Fault.{Fault}
use Rattle.ipc_column.specs.declared.ranges.ColumnRanges.{ColumnRanges}
use Rattle.ipc_column.specs.declared.ranges.ColumnRanges.TheOpen.{ColumnRanges-F}
use Rattle.ipc_column.specs.declared.ranges.ColumnRanges.TheViews.{out-ColumnRanges, roll-ColumnRanges, out-roll-ColumnRanges}
use Rattle.ipc_column.specs.declared.ranges.ColumnRanges.TheFolds.{fold_out-ColumnRanges, fold-roll-ColumnRanges}
use Rattle.ipc_column.specs.checks.Checks.{passes}
use Rattle.ipc_column.specs.Columns.{Column, Columns, column, every, none}
use Rattle.ipc_column.specs.Lent.{AreSlots}
use Rattle.ipc_column.specs.checks.Marks.{mark, each_valid, all_valid, IsMarked, AreMarked}
use Rattle.ipc_column.specs.Views.{part_columns, column_of, children_of, one, part_view, part_step}
use Rattle.ipc_column.proofs.visited.Marks.{marked_from}
use Rattle.ipc_column.proofs.Parts.{children_out, column_is}
use Rattle.ipc_column.proofs.visited.Visited.{layout_is}

-- a part whose children were lent and came back changed
abbrev pub returned : ColumnRanges → List ColumnRanges → ColumnRanges-F ColumnRanges
returned p new = record {
  layout = (out-ColumnRanges p).layout;
  slots = (out-ColumnRanges p).slots;
  nulls = (out-ColumnRanges p).nulls;
  validity = (out-ColumnRanges p).validity;
  offsets = (out-ColumnRanges p).offsets;
  values = (out-ColumnRanges p).values;
  children = with_items (out-ColumnRanges p).children new;
  dictionary = (out-ColumnRanges p).dictionary;
  known_valid = (out-ColumnRanges p).known_valid;
}

-- it has the children that came back
pub returned_items : (p : ColumnRanges) (held new : List ColumnRanges) → held ≡ (out-ColumnRanges p).children.items
    → length new ≡ length held → (out-ColumnRanges (roll-ColumnRanges (returned p new))).children.items ≡ new
returned_items p held new e size =
    let len : length new ≡ (out-ColumnRanges p).children.len =
    omega (arith, size, ap (λ (ps : List ColumnRanges). length ps) e, (out-ColumnRanges p).children.ok) in
    ap (λ (g : ColumnRanges-F ColumnRanges). g.children.items) (out-roll-ColumnRanges (returned p new))
    ∙ with_items_is (out-ColumnRanges p).children new len

pub returned_column : (body : List ℕ) (p : ColumnRanges) (new : List ColumnRanges)
    → column_of body (roll-ColumnRanges (returned p new)) ≡ column_of body p
returned_column body p new =
    ap (λ (v : Column × Columns). v.0) (fold-roll-ColumnRanges (Column × Columns) (part_step body) (returned p new)) ∙ sym (column_is
    body p)

pub returned_children : (body : List ℕ) (p : ColumnRanges) (held new : List ColumnRanges) → held ≡ (out-ColumnRanges p).children.items
    → length new ≡ length held → part_columns body new ≡ part_columns body held
    → children_of body (roll-ColumnRanges (returned p new)) ≡ children_of body p
returned_children body p held new e size same =
    children_out body (roll-ColumnRanges (returned p new))
    ∙ (ap (λ (ps : List ColumnRanges). part_columns body ps) (returned_items p held new e size)
    ∙ (same ∙ (ap (λ (ps : List ColumnRanges). part_columns body ps) e ∙ sym (children_out body p))))

-- what a part passes, one with the same column and children does
pub passes_still : (body : List ℕ) (p q : ColumnRanges) → column_of body q ≡ column_of body p → children_of body q ≡ children_of body p
    → ((why : Fault) → every (passes why) (one body p) ≡ true) → (why : Fault) → every (passes why) (one body q) ≡ true
passes_still body p q e k h why =
    subst (λ (c : Column). every (passes why) (column c (children_of body q) none) ≡ true) (sym e)
    (subst (λ (cs : Columns). every (passes why) (column (column_of body p) cs none) ≡ true) (sym k) (h why))

-- what a part passes, those below it do
pub passes_below : (body : List ℕ) (p : ColumnRanges) → ((why : Fault) → every (passes why) (one body p) ≡ true) → (why : Fault)
    → every (passes why) (part_columns body (out-ColumnRanges p).children.items) ≡ true
passes_below body p h why =
    subst (λ (cs : Columns). every (passes why) cs ≡ true) (children_out body p) (and_parts _ _ (and_parts _ _ (h why)).1).0

-- what a part stores is no part of its column
pub stored_view : (body : List ℕ) (p : ColumnRanges) (known : Bool)
    → part_view body (roll-ColumnRanges (record (out-ColumnRanges p) { known_valid = known })) ≡ part_view body p
stored_view body p known =
    fold-roll-ColumnRanges (Column × Columns) (part_step body) (record (out-ColumnRanges p) { known_valid = known })
    ∙ sym (fold_out-ColumnRanges (Column × Columns) (part_step body) p)

-- a part of marked children that stores what is so is marked
pub stored_mark : (body : List ℕ) (p : ColumnRanges) (known : Bool) → AreMarked body (out-ColumnRanges p).children.items
    → (known ≡ true → needs_slot_checks (column_of body p).layout ≡ true → all_valid (column_of body p).layout (column_of body p) ≡ true)
    → (needs_slot_checks (column_of body p).layout ≡ false → known ≡ each_valid (map (mark body) (out-ColumnRanges p).children.items))
    → IsMarked body (roll-ColumnRanges (record (out-ColumnRanges p) { known_valid = known }))
stored_mark body p known m own below =
    marked_from body (record (out-ColumnRanges p) { known_valid = known }) m
    (λ j k. subst (λ (c : Column). all_valid c.layout c ≡ true) (column_is body p) (own k (ap needs_slot_checks (layout_is body p) ∙ j)))
    (λ j. below (ap needs_slot_checks (layout_is body p) ∙ j))

-- a part that passes its tests has all its slots
pub own_slots : (body : List ℕ) (p : ColumnRanges) → ((why : Fault) → every (passes why) (one body p) ≡ true)
    → AreSlots (one body p) 0 (out-ColumnRanges p).slots
own_slots body p h = record {
  order = omega arith;
  within = and_from _ _ (subst (λ (c : Column). nat_le (out-ColumnRanges p).slots c.slots ≡ true) (sym (column_is body p))
      (le-leb (out-ColumnRanges p).slots (out-ColumnRanges p).slots (omega arith))) refl;
  sound = h;
}

-- parts that were lent and came back with the same columns
pub kept_columns : {Z : Type 0} (body : List ℕ) (parts : Vec ColumnRanges Z) (held new : List ColumnRanges) → held ≡ parts.items
    → length new ≡ length held → part_columns body new ≡ part_columns body held → part_columns body (with_items parts new).items
    ≡ part_columns body parts.items
kept_columns body parts held new e size same =
    let len : length new ≡ parts.len = omega (arith, size, ap (λ (ps : List ColumnRanges). length ps) e, parts.ok) in
    ap (λ (ps : List ColumnRanges). part_columns body ps) (with_items_is parts new len)
    ∙ (same ∙ ap (λ (ps : List ColumnRanges). part_columns body ps) e)
