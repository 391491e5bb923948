use Rattle.std.proofs.Common.{List, [], ap, length}
use Rattle.ipc_model.specs.declared.value.Value.{Value}
use Rattle.ipc_model.specs.declared.value.Value.TheVariants as v
use Rattle.ipc_column.specs.Views.{part_columns}
use Rattle.ipc_column.proofs.lending.FixedLists.{fixed_have, fixed_items, fixed_place_have}
use Rattle.ipc_column.proofs.lending.Slots.{list_have, fixed_values, struct_values}
use Rattle.ipc_column.proofs.visited.Leads.{list_leads, fixed_leads, struct_leads, leaf_good, leaf_inside, leaf_order, leaf_shown}
use Rattle.ipc_column.proofs.slot_view.own_slot.Goals as goal

pub fixed_place-from-requires : goal.fixed_place-from-requires
fixed_place-from-requires c =
    fixed_place_have [] c.args.children.now c.in-FixedLists.size c.args.slots c.args.slot c.requires.slot
    (rw c.in-FixedLists.is at (c.requires.long []))

pub returns-in-Lists-clause-inside : goal.returns-in-Lists-clause-inside
returns-in-Lists-clause-inside c = λ body.
    rw (c.place_at.ensures, c.place_at-in-Lists.ensures)
    (list_leads c.args.offsets.now (part_columns body c.args.children.now) c.args.slots c.args.slot (length c.args.values.now)
    c.requires.slot (rw c.in-Lists.is at c.requires.offsets) (rw c.in-Lists.is at (c.requires.rise body)))

pub returns-in-FixedLists-clause-value : goal.returns-in-FixedLists-clause-value
returns-in-FixedLists-clause-value c = λ body.
    rw c.in-FixedLists.is
    (ap (λ (vs : List Value). v.List vs)
    (fixed_items body c.args.children.now c.in-FixedLists.size c.args.slot c.fixed_place-from.result c.fixed_place-from.ensures.some))

pub returns-in-FixedLists-clause-inside : goal.returns-in-FixedLists-clause-inside
returns-in-FixedLists-clause-inside c = λ body.
    fixed_leads body c.args.children.now c.in-FixedLists.size c.args.slots c.args.slot c.fixed_place-from.result c.requires.slot
    (rw c.in-FixedLists.is at (c.requires.long body)) c.fixed_place-from.ensures.some

pub returns-in-Structs-clause-inside : goal.returns-in-Structs-clause-inside
returns-in-Structs-clause-inside c = λ body.
    struct_leads (part_columns body c.args.children.now) c.args.slots c.args.slot c.requires.slot
    (rw c.in-Structs.is at (c.requires.long body))

pub returns-in-Lists-clause-shown : goal.returns-in-Lists-clause-shown
returns-in-Lists-clause-shown c = λ body sound good.
    rw (c.place_at.ensures, c.place_at-in-Lists.ensures)
    (list_have c.args.offsets.now (part_columns body c.args.children.now) c.args.slots c.args.slot (length c.args.values.now)
    c.requires.slot (rw c.in-Lists.is at c.requires.offsets) (rw c.in-Lists.is at (c.requires.rise body)) sound (rw c.in-Lists.is at good))

pub returns-in-FixedLists-clause-shown : goal.returns-in-FixedLists-clause-shown
returns-in-FixedLists-clause-shown c = λ body sound good.
    fixed_have body c.args.children.now c.in-FixedLists.size c.args.slot c.fixed_place-from.result c.fixed_place-from.ensures.some
    (fixed_values (part_columns body c.args.children.now) c.in-FixedLists.size c.args.slots c.args.slot c.requires.slot
    (rw c.in-FixedLists.is at (c.requires.long body)) sound (rw c.in-FixedLists.is at good))

pub returns-in-Structs-clause-shown : goal.returns-in-Structs-clause-shown
returns-in-Structs-clause-shown c = λ body sound good.
    struct_values (part_columns body c.args.children.now) c.args.slots c.args.slot c.requires.slot
    (rw c.in-Structs.is at (c.requires.long body)) sound (rw c.in-Structs.is at good)

pub returns-in-Indices-clause-inside : goal.returns-in-Indices-clause-inside
returns-in-Indices-clause-inside c = λ body.
    leaf_inside (part_columns body c.args.children.now) c.args.slot c.indexed_slot.result c.indexed_slot.ensures.leaf

pub returns-in-Indices-clause-shown : goal.returns-in-Indices-clause-shown
returns-in-Indices-clause-shown c = λ body sound good.
    leaf_shown (part_columns body c.args.children.now) c.args.slot c.indexed_slot.result c.indexed_slot.ensures.leaf

pub returns-in_default-clause-shown : goal.returns-in_default-clause-shown
returns-in_default-clause-shown c = λ body sound good.
    leaf_shown (part_columns body c.args.children.now) c.args.slot c.leaf_slot.result
    (c.leaf_slot.ensures.leaf (leaf_good _ _ _ _ _ _ good))

pub leaf_slot-requires-clause-rise : goal.leaf_slot-requires-clause-rise
leaf_slot-requires-clause-rise c =
    leaf_order c.args.layout c.args.slots c.args.offsets.now (length c.args.values.now) (part_columns [] c.args.children.now)
    c.in_default.not-Lists (c.requires.rise [])

pub returns-in_default-clause-inside : goal.returns-in_default-clause-inside
returns-in_default-clause-inside c = λ body. c.leaf_slot.ensures.inside (part_columns body c.args.children.now) c.args.slot
