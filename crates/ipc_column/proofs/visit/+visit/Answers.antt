use Rattle.std.proofs.Common.{◌≡◌, ◌∙◌, sym, ap, subst, Bool, false, rules, arith, ◌+◌, ◌-◌, drop, length}
use Rattle.ipc_column.specs.declared.ranges.ColumnRanges.TheViews.{the_lemmas, out-ColumnRanges}
use Rattle.ipc_column.specs.checks.Checks.{good, good_slot}
use Rattle.ipc_model.specs.Layouts.{needs_slot_checks}
use Rattle.ipc_model.specs.declared.fault.Fault.{Fault}
use Rattle.ipc_column.specs.Columns.{Columns}
use Rattle.std.specs.Prelude.{◌&&◌}
use Rattle.std.proofs.lemmas.Bool.{and_left}
use Rattle.std.proofs.lemmas.Result.{err_from_is_err_and}
use Rattle.ipc_column.specs.Views.{part_columns, one, column_of, children_of}
use Rattle.ipc_column.proofs.visited.Goods.{slots_more, slots_fail, good_one, good_first}
use Rattle.ipc_column.proofs.visited.Marks.{known_good, marked_at, marked_below, unknown_below}
use Rattle.ipc_column.proofs.Parts.{columns_from}
use Rattle.ipc_column.proofs.lending.Slots.{slots_first, slots_within, part_long, part_most, bitmap_front}
use Rattle.ipc_column.proofs.lending.FixedLists.{fixed_place_have, fixed_child}
use Rattle.ipc_column.proofs.visited.Visited.{layout_is, list_bytes, list_slots, fixed_slots, struct_slots, list_weight}
use Rattle.ipc_column.proofs.visited.Visited.{fixed_weight_between}
use Rattle.ipc_column.proofs.visited.Visited.{struct_weight}
use Rattle.ipc_column.proofs.visited.Visited.{visited_below, not_judged, good_done}
use Rattle.ipc_column.proofs.visited.Judged.{list_judged, fixed_judged, struct_judged, slot_null, slot_judged, whole_judged}
use Rattle.ipc_column.proofs.visited.Weights.{weight_first, room_next, cost_next, cost_all, visited_weight, below_weight}
use Rattle.ipc_column.proofs.visit.+visit.Goals as goal

pub check_children-place_at-first-requires : goal.check_children-place_at-first-requires
check_children-place_at-first-requires t c =
    rw c.bytes_at-offsets.ensures
    (list_bytes c.args.body.now c.args.part.now c.args.from c.args.to c.args.from c.requires.slots c.requires.some
    (omega arith) c.in-Lists.is)

pub check_children-place_at-end-requires : goal.check_children-place_at-end-requires
check_children-place_at-end-requires t c =
    rw c.bytes_at-offsets.ensures
    (list_bytes c.args.body.now c.args.part.now c.args.from c.args.to c.args.to c.requires.slots c.requires.some
    (omega arith) c.in-Lists.is)

pub check_children-check_all_values-requires : goal.check_children-check_all_values-requires
check_children-check_all_values-requires t c =
    let w = list_weight c.args.body.now c.args.part.now c.args.from c.args.to c.in-Lists.is in (
      search (rules, the_lemmas),
      rw (c.deref.ensures.value, c.place_at-first.ensures, c.place_at-end.ensures, c.bytes_at-offsets.ensures) (
        list_slots c.args.body.now c.args.part.now c.args.from c.args.to c.requires.slots c.requires.some c.in-Lists.is,
        (omega (arith, w, c.requires.room), marked_below c.args.body.now c.args.part.now c.requires.marks),
      ),
    )

pub check_children-fixed_place-first-requires : goal.check_children-fixed_place-first-requires
check_children-fixed_place-first-requires t c =
    let most = part_most c.args.body.now c.args.part.now c.args.from c.args.to c.requires.slots in
    let long = (part_long c.args.body.now c.args.part.now c.args.from c.args.to c.requires.slots).long in
    rw c.deref-in-FixedLists.ensures.value (fixed_place_have c.args.body.now (out-ColumnRanges c.args.part.now).children.items
    c.in-FixedLists.size (out-ColumnRanges c.args.part.now).slots c.args.from (omega (arith, most, c.requires.some))
    (rw c.in-FixedLists.is at long))

pub check_children-fixed_place-requires : goal.check_children-fixed_place-requires
check_children-fixed_place-requires t c =
    let most = part_most c.args.body.now c.args.part.now c.args.from c.args.to c.requires.slots in
    let long = (part_long c.args.body.now c.args.part.now c.args.from c.args.to c.requires.slots).long in
    rw c.deref-in-FixedLists-2.ensures.value (fixed_place_have c.args.body.now (out-ColumnRanges c.args.part.now).children.items
    c.in-FixedLists.size (out-ColumnRanges c.args.part.now).slots (c.args.to - 1) (omega (arith, most, c.requires.some))
    (rw c.in-FixedLists.is at long))

pub check_children-check_all_values-requires-in-FixedLists : goal.check_children-check_all_values-requires-in-FixedLists
check_children-check_all_values-requires-in-FixedLists t c =
    let children = (out-ColumnRanges c.args.part.now).children.items in
    let first = rw c.deref-in-FixedLists.ensures.value at c.fixed_place-first.ensures.some in
    let none = rw c.deref-in-FixedLists.ensures.value at c.fixed_place-first.ensures.none in
    let last = rw c.deref-in-FixedLists-2.ensures.value at c.fixed_place.ensures.some in
    let w = fixed_weight_between c.args.body.now c.args.part.now c.args.from c.args.to c.in-FixedLists.size c.fixed_place-first.result
    c.fixed_place.result c.in-FixedLists.is c.requires.some first last in
    let slots = fixed_slots c.args.body.now c.args.part.now c.args.from c.args.to c.in-FixedLists.size c.requires.slots c.requires.some
    c.in-FixedLists.is in (
      search (rules, the_lemmas),
      rw c.deref-in-FixedLists-3.ensures.value (
        fixed_child c.args.body.now children c.in-FixedLists.size c.args.from c.args.to c.fixed_place-first.result c.fixed_place.result
            first none last c.requires.some slots,
        (omega (arith, w, c.requires.room), marked_below c.args.body.now c.args.part.now c.requires.marks),
      ),
    )

pub check_children-returns-in-Lists-clause-judged : goal.check_children-returns-in-Lists-clause-judged
check_children-returns-in-Lists-clause-judged t c =
    list_judged c.check_all_values.result c.args.body.now c.args.part.now c.args.from c.args.to c.in-Lists.is
    (rw (c.deref.ensures.value, c.place_at-first.ensures, c.place_at-end.ensures, c.bytes_at-offsets.ensures) at
    c.check_all_values.ensures.judged)

pub check_children-returns-in-Structs-clause-judged : goal.check_children-returns-in-Structs-clause-judged
check_children-returns-in-Structs-clause-judged t c =
    struct_judged c.check_all_values-in-Structs.result c.args.body.now c.args.part.now c.args.from c.args.to c.in-Structs.is
    (rw c.deref-in-Structs.ensures.value at c.check_all_values-in-Structs.ensures.judged)

pub check_children-returns-in-FixedLists-clause-judged : goal.check_children-returns-in-FixedLists-clause-judged
check_children-returns-in-FixedLists-clause-judged t c =
    let first = rw c.deref-in-FixedLists.ensures.value at c.fixed_place-first.ensures.some in
    let last = rw c.deref-in-FixedLists-2.ensures.value at c.fixed_place.ensures.some in
    fixed_judged c.check_all_values-in-FixedLists.result c.args.body.now c.args.part.now c.args.from c.args.to c.in-FixedLists.size
    c.fixed_place-first.result c.fixed_place.result c.in-FixedLists.is c.requires.some first last
    (rw c.deref-in-FixedLists-3.ensures.value at c.check_all_values-in-FixedLists.ensures.judged)

pub check_children-returns-in-FixedLists-clause-cost : goal.check_children-returns-in-FixedLists-clause-cost
check_children-returns-in-FixedLists-clause-cost t c =
    let first = rw c.deref-in-FixedLists.ensures.value at c.fixed_place-first.ensures.some in
    let last = rw c.deref-in-FixedLists-2.ensures.value at c.fixed_place.ensures.some in
    let w = fixed_weight_between c.args.body.now c.args.part.now c.args.from c.args.to c.in-FixedLists.size c.fixed_place-first.result
    c.fixed_place.result c.in-FixedLists.is c.requires.some first last in
    let cost = rw c.deref-in-FixedLists-3.ensures.value at c.check_all_values-in-FixedLists.ensures.cost in
    omega (arith, w, cost)

pub check_children-check_all_values-requires-in-Structs : goal.check_children-check_all_values-requires-in-Structs
check_children-check_all_values-requires-in-Structs t c =
    let w = struct_weight c.args.body.now c.args.part.now c.args.from c.args.to c.in-Structs.is in (
      search (rules, the_lemmas),
      rw c.deref-in-Structs.ensures.value (
        struct_slots c.args.body.now c.args.part.now c.args.from c.args.to c.requires.slots c.requires.some c.in-Structs.is,
        (omega (arith, w, c.requires.room), marked_below c.args.body.now c.args.part.now c.requires.marks),
      ),
    )

pub check_slot-visit-requires-clause-fits : goal.check_slot-visit-requires-clause-fits
check_slot-visit-requires-clause-fits t c =
    let w = visited_weight (column_of c.args.body.now c.args.part.now) (children_of c.args.body.now c.args.part.now) c.args.slot
    c.requires.visited in
    omega (arith, w, c.requires.room)

pub check_slot-visit-requires-clause-bitmap : goal.check_slot-visit-requires-clause-bitmap
check_slot-visit-requires-clause-bitmap t c =
    let most = part_most c.args.body.now c.args.part.now c.args.slot (c.args.slot + 1) c.requires.slots in
    rw c.bytes_at.ensures (bitmap_front (out-ColumnRanges c.args.part.now).slots c.args.slot _
    (part_long c.args.body.now c.args.part.now c.args.slot (c.args.slot + 1) c.requires.slots).bitmap (omega (arith, most)))

pub check_slot-check_children-requires : goal.check_slot-check_children-requires
check_slot-check_children-requires t c =
    let w = visited_weight (column_of c.args.body.now c.args.part.now) (children_of c.args.body.now c.args.part.now) c.args.slot
    c.requires.visited in
    (search (rules, the_lemmas), (omega arith, (c.requires.slots, (omega (arith, w, c.requires.room), c.requires.marks))))

pub check_slot-returns-then-not-visit-clause-judged : goal.check_slot-returns-then-not-visit-clause-judged
check_slot-returns-then-not-visit-clause-judged t c =
    slot_null c.args.body.now c.args.part.now c.args.slot
    (rw c.bytes_at.ensures at (sym c.visit.ensures.valid ∙ c.if-not-visit.true))

pub check_slot-returns-then-not-visit-clause-cost : goal.check_slot-returns-then-not-visit-clause-cost
check_slot-returns-then-not-visit-clause-cost t c =
    let w = visited_weight (column_of c.args.body.now c.args.part.now) (children_of c.args.body.now c.args.part.now) c.args.slot
    c.requires.visited in
    omega (arith, w)

pub check_slot-returns-clause-judged : goal.check_slot-returns-clause-judged
check_slot-returns-clause-judged t c =
    slot_judged c.check_children.result c.args.body.now c.args.part.now c.args.slot
    (rw c.bytes_at.ensures at (sym c.visit.ensures.valid ∙ c.if-not-visit.false)) c.requires.below c.check_children.ensures.judged

pub check_slot-returns-clause-cost : goal.check_slot-returns-clause-cost
check_slot-returns-clause-cost t c =
    let w = visited_weight (column_of c.args.body.now c.args.part.now) (children_of c.args.body.now c.args.part.now) c.args.slot
    c.requires.visited in
    omega (arith, w, c.check_children.ensures.cost)

pub check_slots-check_slot-requires : goal.check_slots-check_slot-requires
check_slots-check_slot-requires t c = (
  search rules,
  (
    slots_within (one c.args.body.now c.args.part.now) c.args.from c.args.to c.loop-slot.slot (c.loop-slot.slot + 1) c.requires.slots
        (omega arith) (omega arith),
    (
      c.requires.below,
      (
        c.requires.visited,
        (
          room_next (one c.args.body.now c.args.part.now) c.args.from c.loop-slot.slot c.args.to c.args.tests.now c.loop-slot.tests _
              c.requires.slots (omega arith) (omega arith) c.loop-slot.invariant.cost c.requires.room,
          (omega arith, c.requires.marks),
        ),
      ),
    ),
  ),
)

pub check_slots-returns-in_err-check_slot-clause-judged : goal.check_slots-returns-in_err-check_slot-clause-judged
check_slots-returns-in_err-check_slot-clause-judged t c =
    let d = c.in_err-check_slot.field-0.0 in
    let p = err_from_is_err_and c.from_residual.result c.from_residual.ensures.1 in
    rw p.1 (subst (λ (why : Fault). good why (one c.args.body.now c.args.part.now) c.args.from c.args.to ≡ false) (sym p.2)
    (good_one d (column_of c.args.body.now c.args.part.now) (children_of c.args.body.now c.args.part.now) c.args.from c.args.to
    ∙ slots_fail (good_slot d (good d (children_of c.args.body.now c.args.part.now))
    (column_of c.args.body.now c.args.part.now)) c.args.from
    c.args.to c.loop-slot.slot (omega arith) (omega arith) c.in_err-check_slot.ensures.judged))

pub check_slots-returns-in_err-check_slot-clause-cost : goal.check_slots-returns-in_err-check_slot-clause-cost
check_slots-returns-in_err-check_slot-clause-cost t c =
    cost_all (one c.args.body.now c.args.part.now) c.args.from c.loop-slot.slot c.args.to c.args.tests.now c.loop-slot.tests _
    c.requires.slots (omega arith) (omega arith) c.loop-slot.invariant.cost c.in_err-check_slot.ensures.cost

pub check_slots-loop-slot-preserved : goal.check_slots-loop-slot-preserved
check_slots-loop-slot-preserved t c = record {
  good = λ why. slots_more (good_slot why (good why (children_of c.args.body.now c.args.part.now))
      (column_of c.args.body.now c.args.part.now))
      c.args.from c.loop-slot.slot (omega arith) (c.loop-slot.invariant.good why) (c.in_ok-check_slot.ensures.judged why);
  cost = cost_next (one c.args.body.now c.args.part.now) c.args.from c.loop-slot.slot c.args.to c.args.tests.now c.loop-slot.tests _
      c.requires.slots (omega arith) (omega arith) c.loop-slot.invariant.cost c.in_ok-check_slot.ensures.cost;
}

pub check_slots-returns-clause-judged : goal.check_slots-returns-clause-judged
check_slots-returns-clause-judged t c = λ why.
    let order = c.requires.slots.order in
    let e : c.loop-slot.slot ≡ c.args.to = omega arith in
    good_one why (column_of c.args.body.now c.args.part.now) (children_of c.args.body.now c.args.part.now) c.args.from c.args.to
    ∙ (rw e at (c.loop-slot.invariant.good why))

pub check_slots-returns-clause-cost : goal.check_slots-returns-clause-cost
check_slots-returns-clause-cost t c =
    let order = c.requires.slots.order in
    let e : c.loop-slot.slot ≡ c.args.to = omega arith in
    rw e at c.loop-slot.invariant.cost

pub check_values-check_children-requires : goal.check_values-check_children-requires
check_values-check_children-requires t c =
    let order = c.requires.slots.order in
    let w = below_weight (column_of c.args.body.now c.args.part.now) (children_of c.args.body.now c.args.part.now) c.args.from c.args.to in
    (search (rules, the_lemmas), (omega arith, (c.requires.slots, (omega (arith, w, c.requires.room), c.requires.marks))))

pub check_values-returns-then-is_empty-clause-judged : goal.check_values-returns-then-is_empty-clause-judged
check_values-returns-then-is_empty-clause-judged t c =
    let none : length c.bytes_at.result.now ≡ 0 = search rules in
    whole_judged c.check_children.result c.args.body.now c.args.part.now c.args.from c.args.to c.requires.slots
    (not_judged (out-ColumnRanges c.args.part.now).layout (sym c.is_texts.ensures ∙ c.if-is_texts.false) c.in_default.not-Indices)
    (rw c.bytes_at.ensures at none) c.check_children.ensures.judged

pub check_values-returns-then-is_empty-clause-cost : goal.check_values-returns-then-is_empty-clause-cost
check_values-returns-then-is_empty-clause-cost t c =
    let w = below_weight (column_of c.args.body.now c.args.part.now) (children_of c.args.body.now c.args.part.now) c.args.from c.args.to in
    omega (arith, w, c.check_children.ensures.cost)

pub check_values-returns-then-part-clause-judged : goal.check_values-returns-then-part-clause-judged
check_values-returns-then-part-clause-judged t c =
    known_good c.args.body.now c.args.part.now c.requires.marks c.if-part.true c.args.from c.args.to c.requires.slots

pub check_values-check_slots-requires : goal.check_values-check_slots-requires
check_values-check_slots-requires t c = (
  search (rules, the_lemmas),
  (
    c.requires.slots,
    (
      ap needs_slot_checks (layout_is c.args.body.now c.args.part.now)
          ∙ not_judged (out-ColumnRanges c.args.part.now).layout (sym c.is_texts.ensures ∙ c.if-is_texts.false) c.in_default.not-Indices,
      (
        visited_below c.args.body.now c.args.part.now (rw c.bytes_at.ensures at (sym c.is_empty.ensures ∙ c.if-is_empty.false))
            (unknown_below c.args.body.now c.args.part.now c.requires.marks
            (not_judged (out-ColumnRanges c.args.part.now).layout (sym c.is_texts.ensures ∙ c.if-is_texts.false) c.in_default.not-Indices)
            c.if-part.false),
        (c.requires.room, c.requires.marks),
      ),
    ),
  ),
)

pub check_all_values-check_values-requires : goal.check_all_values-check_values-requires
check_all_values-check_values-requires t c =
    let e = columns_from c.args.body.now c.args.parts.now c.loop-part.part-index c.part-item.result (omega arith) c.part-item.is in
    let s = slots_first _ _ _ _ _ (rw e at c.loop-part.invariant.slots) in
    let w = weight_first (column_of c.args.body.now c.part-item.result) (children_of c.args.body.now c.part-item.result)
    (part_columns c.args.body.now (drop (c.loop-part.part-index + 1) c.args.parts.now)) c.args.from c.args.to in
    let k = rw (e, w) at c.loop-part.invariant.cost in
    let m = marked_at c.args.body.now c.args.parts.now c.loop-part.part-index c.part-item.result (omega arith) c.part-item.is
    c.requires.marks in
    (search (rules, the_lemmas), (s.0, (omega (arith, k, c.requires.room), m)))

pub check_all_values-returns-in_err-check_values-clause-judged : goal.check_all_values-returns-in_err-check_values-clause-judged
check_all_values-returns-in_err-check_values-clause-judged t c =
    let d = c.in_err-check_values.field-0.0 in
    let p = err_from_is_err_and c.from_residual.result c.from_residual.ensures.1 in
    let e = columns_from c.args.body.now c.args.parts.now c.loop-part.part-index c.part-item.result (omega arith) c.part-item.is in
    let g = good_first d (column_of c.args.body.now c.part-item.result) (children_of c.args.body.now c.part-item.result)
    (part_columns c.args.body.now (drop (c.loop-part.part-index + 1) c.args.parts.now)) c.args.from c.args.to in
    rw (p.1, p.2) (sym (c.loop-part.invariant.good d) ∙ (ap (λ (cs : Columns). good d cs c.args.from c.args.to) e
    ∙ (g ∙ and_left _ _ c.in_err-check_values.ensures.judged)))

pub check_all_values-returns-in_err-check_values-clause-cost : goal.check_all_values-returns-in_err-check_values-clause-cost
check_all_values-returns-in_err-check_values-clause-cost t c =
    let e = columns_from c.args.body.now c.args.parts.now c.loop-part.part-index c.part-item.result (omega arith) c.part-item.is in
    let w = weight_first (column_of c.args.body.now c.part-item.result) (children_of c.args.body.now c.part-item.result)
    (part_columns c.args.body.now (drop (c.loop-part.part-index + 1) c.args.parts.now)) c.args.from c.args.to in
    let k = rw (e, w) at c.loop-part.invariant.cost in
    omega (arith, k, c.in_err-check_values.ensures.cost)

pub check_all_values-loop-part-preserved : goal.check_all_values-loop-part-preserved
check_all_values-loop-part-preserved t c =
    let e = columns_from c.args.body.now c.args.parts.now c.loop-part.part-index c.part-item.result (omega arith) c.part-item.is in
    let g : (why : Fault) → good why (part_columns c.args.body.now (drop c.loop-part.part-index c.args.parts.now)) c.args.from c.args.to
    ≡ (good why (one c.args.body.now c.part-item.result) c.args.from c.args.to
    && good why (part_columns c.args.body.now (drop (c.loop-part.part-index + 1) c.args.parts.now)) c.args.from c.args.to) =
    λ why. ap (λ (cs : Columns). good why cs c.args.from c.args.to) e ∙ good_first why (column_of c.args.body.now c.part-item.result)
    (children_of c.args.body.now c.part-item.result)
    (part_columns c.args.body.now (drop (c.loop-part.part-index + 1) c.args.parts.now)) c.args.from c.args.to in
    let w = weight_first (column_of c.args.body.now c.part-item.result) (children_of c.args.body.now c.part-item.result)
    (part_columns c.args.body.now (drop (c.loop-part.part-index + 1) c.args.parts.now)) c.args.from c.args.to in
    let k = rw (e, w) at c.loop-part.invariant.cost in
    record {
      good = λ why. sym (g why ∙ ap (λ (b : Bool). b && good why (part_columns c.args.body.now
          (drop (c.loop-part.part-index + 1) c.args.parts.now)) c.args.from c.args.to) (c.in_ok-check_values.ensures.judged why))
          ∙ c.loop-part.invariant.good why;
      cost = omega (arith, k, c.in_ok-check_values.ensures.cost);
      slots = (slots_first _ _ _ _ _ (rw e at c.loop-part.invariant.slots)).1;
    }

pub check_all_values-returns-clause-judged : goal.check_all_values-returns-clause-judged
check_all_values-returns-clause-judged t c = λ why.
    sym (c.loop-part.invariant.good why)
    ∙ good_done why c.args.body.now c.args.parts.now c.loop-part.part-index c.args.from c.args.to c.loop-part-test.false
