use Rattle.std.proofs.Common.{◌≡◌, ◌∙◌, refl, ap, sym, subst, arith, rules}
use Rattle.ipc_build.specs.Trees.{node, view, fields_view}
use Rattle.ipc_build.specs.Layout.{weight, entry_count}
use Rattle.ipc_build.specs.Ascends.{InRange}
use Rattle.ipc_build.specs.Room.{targets_room}
use Rattle.ipc_build.proofs.Nodes.{view_is, u8_is, bool_is, i16_is, i32_is, i64_is}
use Rattle.ipc_build.proofs.Views.{fields_weight, tables_weight, tables_below}
use Rattle.ipc_build.proofs.RoomSteps.{counts_at, string_counted, pairs_counted, tables_counted, byte_counted, signed_counted, room_more}
use Rattle.ipc_build.proofs.RoomSteps.{range_more, table_room_more, table_range_more, room_done, table_room_done}
use Rattle.std.proofs.Common.{w16, w32, w64}
use Rattle.ipc_build.proofs.RoomSteps.{bool_small}
use Rattle.ipc_build.proofs.room.+targets_room.Goals as goal

pub target_room-returns-in-Text : goal.target_room-returns-in-Text
target_room-returns-in-Text t c = string_counted c.args.slot.now c.in-Text.text c.as_str.result.now c.args.greatest c.args.size
    c.text_room.result c.in-Text.is c.as_str.ensures c.as_str.utf8 c.text_room.ensures

pub target_room-returns-in-Tables : goal.target_room-returns-in-Tables
target_room-returns-in-Tables t c = tables_counted c.args.slot.now c.in-Tables.trees c.as_slice.result.now c.args.greatest c.args.size
    c.vector_room.result c.in-Tables.is c.as_slice.ensures c.vector_room.ensures

pub target_room-returns-in-Pairs : goal.target_room-returns-in-Pairs
target_room-returns-in-Pairs t c = pairs_counted c.args.slot.now c.in-Pairs.pairs c.as_slice-in-Pairs.result.now c.args.greatest
    c.args.size c.pairs_room.result c.in-Pairs.is c.as_slice-in-Pairs.ensures c.pairs_room.ensures

pub target_room-vector_room-requires : goal.target_room-vector_room-requires
target_room-vector_room-requires t c =
    let z = tables_below c.args.slot.now c.in-Tables.trees c.as_slice.result.now c.in-Tables.is c.as_slice.ensures in
    (omega (arith, z), (c.requires.limit, c.requires.size))

pub targets_room-target_room-requires : goal.targets_room-target_room-requires
targets_room-target_room-requires t c =
    let z = fields_weight c.args.slots.now c.loop-slot.slot-index c.loop-slot-item.result c.loop-slot-test.true in
    let y = ap (λ x. weight (node x.1).1) c.loop-slot-item.is in
    (omega (arith, z, y), (c.requires.limit, c.loop-slot.invariant.small))

pub table_room-targets_room-requires : goal.table_room-targets_room-requires
table_room-targets_room-requires t c =
    let v : view c.args.tree.now ≡ fields_view c.as_slice-slots.result.now =
    view_is c.args.tree.now ∙ ap fields_view (sym c.as_slice-slots.ensures) in
    let z = ap weight v in
    (omega (arith, z), (c.requires.limit, c.in_ok-size.ensures.1))

pub elements_room-table_room-requires : goal.elements_room-table_room-requires
elements_room-table_room-requires t c =
    let z = tables_weight c.args.trees.now c.loop-tree.tree-index c.tree-item.result c.loop-tree-test.true in
    let y = ap (λ x. weight (view x)) c.tree-item.is in
    (omega (arith, z, y), (c.requires.limit, c.loop-tree.invariant.small))

pub targets_room-loop-slot-preserved : goal.targets_room-loop-slot-preserved
targets_room-loop-slot-preserved t c =
    let m = room_more c.args.slots.now c.loop-slot.slot-index c.loop-slot-item.result c.loop-slot-item.is c.loop-slot-test.true in
    let s = c.in_ok-sum.ensures in
    record {
      sum = omega (arith, m, s.0, c.loop-slot.invariant.sum);
      small = s.1;
      fine = range_more c.args.slots.now c.loop-slot.slot-index c.loop-slot-item.result c.loop-slot-item.is c.loop-slot-test.true
          c.loop-slot.invariant.fine s.2.0 s.2.1;
    }

pub targets_room-returns : goal.targets_room-returns
targets_room-returns t c =
    let d = room_done c.args.slots.now c.loop-slot.slot-index (omega arith) in
    (omega (arith, d.0, c.loop-slot.invariant.sum), c.loop-slot.invariant.small, c.loop-slot.invariant.fine d.1)

pub elements_room-loop-tree-preserved : goal.elements_room-loop-tree-preserved
elements_room-loop-tree-preserved t c =
    let m = table_room_more c.args.trees.now c.loop-tree.tree-index c.tree-item.result c.tree-item.is c.loop-tree-test.true in
    let s = c.in_ok-sum.ensures in
    record {
      sum = omega (arith, m, s.0, c.loop-tree.invariant.sum);
      small = s.1;
      fine = table_range_more c.args.trees.now c.loop-tree.tree-index c.tree-item.result c.tree-item.is c.loop-tree-test.true
          c.loop-tree.invariant.fine s.2;
    }

pub elements_room-returns : goal.elements_room-returns
elements_room-returns t c =
    let d = table_room_done c.args.trees.now c.loop-tree.tree-index (omega arith) in
    (omega (arith, d.0, c.loop-tree.invariant.sum), c.loop-tree.invariant.small, c.loop-tree.invariant.fine d.1)

pub table_room-returns : goal.table_room-returns
table_room-returns t c =
    let v : view c.args.tree.now ≡ fields_view c.as_slice-slots.result.now =
    view_is c.args.tree.now ∙ ap fields_view (sym c.as_slice-slots.ensures) in
    let r = ap targets_room v in
    let o = ap (entry_count 0) v in
    counts_at _ _ _ _ _ c.targets_room.result (omega (arith, r, o, c.entry_count.ensures.value, c.in_ok-size.ensures.0))
    (λ f. subst InRange (sym v) f) c.targets_room.ensures

pub vector_room-returns : goal.vector_room-returns
vector_room-returns t c = counts_at _ _ _ _ _ c.elements_room.result (omega (arith, c.in_ok-size.ensures.0)) (λ f. f)
    c.elements_room.ensures

pub targets_room-returns-in_err-sum : goal.targets_room-returns-in_err-sum
targets_room-returns-in_err-sum t c =
    let m = room_more c.args.slots.now c.loop-slot.slot-index c.loop-slot-item.result c.loop-slot-item.is c.loop-slot-test.true in
    rw (c.from_residual.ensures) (omega (arith, m, c.in_err-sum.ensures, c.loop-slot.invariant.sum))

pub elements_room-returns-in_err-sum : goal.elements_room-returns-in_err-sum
elements_room-returns-in_err-sum t c =
    let m = table_room_more c.args.trees.now c.loop-tree.tree-index c.tree-item.result c.tree-item.is c.loop-tree-test.true in
    rw (c.from_residual.ensures) (omega (arith, m, c.in_err-sum.ensures, c.loop-tree.invariant.sum))

pub table_room-returns-in_err-size : goal.table_room-returns-in_err-size
table_room-returns-in_err-size t c =
    let v : view c.args.tree.now ≡ fields_view c.as_slice-slots.result.now =
    view_is c.args.tree.now ∙ ap fields_view (sym c.as_slice-slots.ensures) in
    let o = ap (entry_count 0) v in
    rw (c.from_residual.ensures) (omega (arith, o, c.entry_count.ensures.value, c.in_err-size.ensures))

pub vector_room-returns-in_err-size : goal.vector_room-returns-in_err-size
vector_room-returns-in_err-size t c = rw (c.from_residual.ensures) (omega (arith, c.in_err-size.ensures))

pub target_room-returns-in-Bool : goal.target_room-returns-in-Bool
target_room-returns-in-Bool t c = byte_counted c.args.slot.now _ c.args.greatest c.args.size
    (ap node c.in-Bool.is ∙ bool_is c.in-Bool.field-0) (bool_small c.in-Bool.field-0) c.requires.size

pub target_room-returns-in-U8 : goal.target_room-returns-in-U8
target_room-returns-in-U8 t c = byte_counted c.args.slot.now c.in-U8._number c.args.greatest c.args.size
    (ap node c.in-U8.is ∙ u8_is c.in-U8._number) (search rules) c.requires.size

pub target_room-returns-in-I16 : goal.target_room-returns-in-I16
target_room-returns-in-I16 t c = signed_counted c.args.slot.now w16 c.in-I16._number c.args.greatest c.args.size
    (ap node c.in-I16.is ∙ i16_is c.in-I16._number) (search rules) (4, refl) c.requires.size

pub target_room-returns-in-I32 : goal.target_room-returns-in-I32
target_room-returns-in-I32 t c = signed_counted c.args.slot.now w32 c.in-I32._number c.args.greatest c.args.size
    (ap node c.in-I32.is ∙ i32_is c.in-I32._number) (search rules) (2, refl) c.requires.size

pub target_room-returns-in-I64 : goal.target_room-returns-in-I64
target_room-returns-in-I64 t c = signed_counted c.args.slot.now w64 c.in-I64._number c.args.greatest c.args.size
    (ap node c.in-I64.is ∙ i64_is c.in-I64._number) (search rules) (1, refl) c.requires.size
