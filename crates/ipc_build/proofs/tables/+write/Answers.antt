use Rattle.std.proofs.Common.{◌≡◌, ℕ, refl, ◌+◌, ◌-◌, ◌*◌, length, drop, ap, ◌∙◌, sym, arith}
use Rattle.std.proofs.lemmas.List.{length-append, length-replicate}
use Rattle.ipc_build.specs.Trees.{view, fields_view, tables_view, node}
use Rattle.ipc_build.specs.Layout.{inline_end, weight, padding}
use Rattle.ipc_build.proofs.Upward.{ends_up}
use Rattle.ipc_build.proofs.Nodes.{view_is}
use Rattle.ipc_build.proofs.Views.{members_fields, members_tables, fields_bound, fields_weight, tables_bound, tables_weight, tables_need}
use Rattle.ipc_build.proofs.Views.{tables_below, tables_bytes, vector_up, pairs_need}
use Rattle.ipc_build.proofs.Patches.{lent, fields_start, field_put, fields_put, number_put, tables_start, table_put, tables_put}
use Rattle.ipc_build.proofs.Pieces.{few, field_below, table_each, elements_below, pairs_bytes, places_end, table_joined, vector_places}
use Rattle.ipc_build.proofs.Pieces.{vector_joined}
use Rattle.ipc_build.specs.Ascends.{fields, Writable}
use Rattle.ipc_build.proofs.tables.+write.Goals as goal

pub write_fields-write_target-requires : goal.write_fields-write_target-requires
write_fields-write_target-requires t c =
    let p = c.len-next.ensures ∙ c.loop-slot.out.ok.0 in
    let same = lent c.loop-slot.out.len c.loop-slot.out.items _ c.put_u64.new.bytes c.loop-slot.out.ok.0
    c.as_mut_slice.ensures.value c.put_u64.auto.bytes in
    let e = fields_bound c.args.slots.now c.loop-slot.slot-index c.loop-slot-item.result
    (length c.loop-slot.out.items) _ c.loop-slot-item.is c.loop-slot-test.true c.loop-slot.invariant.ends in
    let z = fields_weight c.args.slots.now c.loop-slot.slot-index c.loop-slot-item.result c.loop-slot-test.true in
    let y = ap (λ x. weight (node x.1).1) c.loop-slot-item.is in (
      omega (arith, z, y),
      (
        field_below c.args.slots.now c.loop-slot.slot-index c.loop-slot-item.result c.loop-slot-item.is
            c.loop-slot-test.true c.requires.writable,
        (
          omega (arith, p, ap length same, c.put_u64.auto.bytes, c.as_mut_slice.ensures.len),
          rw p (omega (arith, e, c.requires.small)),
        ),
      ),
    )

pub write_fields-inline_value-requires : goal.write_fields-inline_value-requires
write_fields-inline_value-requires t c =
    let p = c.len-next.ensures ∙ c.loop-slot.out.ok.0 in
    let u = (ends_up (fields_view (drop c.loop-slot.slot-index c.args.slots.now)) (length c.loop-slot.out.items)).more in
    record {
      before = omega (arith, p, c.loop-slot.invariant.place, c.loop-slot.invariant.behind);
      small = omega (arith, p, u, c.loop-slot.invariant.ends, c.requires.small);
    }

pub write_fields-put_u64-requires : goal.write_fields-put_u64-requires
write_fields-put_u64-requires t c = omega (arith, c.loop-slot.invariant.place, c.loop-slot.invariant.behind, c.loop-slot-test.true)

pub write_fields-loop-slot-init : goal.write_fields-loop-slot-init
write_fields-loop-slot-init t c = fields_start c.args.slots.now c.args.at c.args.out.now.items c.requires.places

pub write_fields-loop-slot-preserved : goal.write_fields-loop-slot-preserved
write_fields-loop-slot-preserved t c =
    let put = number_put c.loop-slot.out.len c.loop-slot.out.items _ c.put_u64.new.bytes c.loop-slot.out.ok.0
    c.as_mut_slice.ensures.value c.put_u64.auto.bytes 8 c.loop-slot.here _
    (omega (arith, c.loop-slot.invariant.place, c.loop-slot.invariant.behind, c.loop-slot-test.true))
    c.put_u64.ensures.before c.put_u64.ensures.bytes c.put_u64.ensures.after in
    field_put c.args.slots.now c.loop-slot.slot-index c.loop-slot-item.result c.loop-slot-item.is c.loop-slot-test.true c.loop-slot.here
    c.args.at c.len-next.result c.inline_value.result _ c.loop-slot.out.items _ c.write_target.new.out.items
    c.requires.writable (c.len-next.ensures ∙ c.loop-slot.out.ok.0) c.inline_value.ensures put
    c.in_ok-write_target.ensures c.loop-slot.invariant

pub write_fields-returns : goal.write_fields-returns
write_fields-returns t c = fields_put c.args.slots.now c.loop-slot.slot-index c.loop-slot.here c.args.at _ c.loop-slot.out.items
    (omega arith) c.loop-slot.invariant

pub write_elements-write_table-requires : goal.write_elements-write_table-requires
write_elements-write_table-requires t c =
    let p = c.len-next.ensures ∙ c.loop-tree.out.ok.0 in
    let same = lent c.loop-tree.out.len c.loop-tree.out.items _ c.put_u32.new.bytes c.loop-tree.out.ok.0
    c.as_mut_slice.ensures.value c.put_u32.auto.bytes in
    let e = tables_bound c.args.trees.now c.loop-tree.tree-index c.tree-item.result
    (length c.loop-tree.out.items) _ c.tree-item.is c.loop-tree-test.true c.loop-tree.invariant.ends in
    let z = tables_weight c.args.trees.now c.loop-tree.tree-index c.tree-item.result c.loop-tree-test.true in
    let y = ap (λ x. weight (view x)) c.tree-item.is in (
      omega (arith, z, y),
      (
        table_each c.args.trees.now c.loop-tree.tree-index c.tree-item.result c.tree-item.is c.loop-tree-test.true
            c.requires.writable,
        (
          omega (arith, p, ap length same, c.put_u32.auto.bytes, c.as_mut_slice.ensures.len),
          rw p (omega (arith, e, c.requires.small)),
        ),
      ),
    )

pub write_elements-table_place-requires : goal.write_elements-table_place-requires
write_elements-table_place-requires t c =
    let p = c.len-next.ensures ∙ c.loop-tree.out.ok.0 in
    let u = (ends_up (tables_view (drop c.loop-tree.tree-index c.args.trees.now)) (length c.loop-tree.out.items)).more in
    omega (arith, p, u, c.loop-tree.invariant.ends, c.requires.small)

pub write_elements-overflow_cast-offset : goal.write_elements-overflow_cast-offset
write_elements-overflow_cast-offset t c =
    let p = c.len-next.ensures ∙ c.loop-tree.out.ok.0 in
    let e = tables_bound c.args.trees.now c.loop-tree.tree-index c.tree-item.result
    (length c.loop-tree.out.items) _ c.tree-item.is c.loop-tree-test.true c.loop-tree.invariant.ends in
    let u = (ends_up (view c.tree-item.result) (inline_end (view c.tree-item.result) (length c.loop-tree.out.items))).more in
    omega (arith, e, u, p, c.table_place.ensures, c.requires.small)

pub write_elements-put_u32-requires : goal.write_elements-put_u32-requires
write_elements-put_u32-requires t c = omega (arith, c.loop-tree.invariant.place, c.loop-tree.invariant.behind, c.loop-tree-test.true)

pub write_elements-loop-tree-init : goal.write_elements-loop-tree-init
write_elements-loop-tree-init t c = tables_start c.args.trees.now c.args.at c.args.out.now.items c.requires.places

pub write_elements-loop-tree-preserved : goal.write_elements-loop-tree-preserved
write_elements-loop-tree-preserved t c =
    let put = number_put c.loop-tree.out.len c.loop-tree.out.items _ c.put_u32.new.bytes c.loop-tree.out.ok.0
    c.as_mut_slice.ensures.value c.put_u32.auto.bytes 4 c.loop-tree.here _
    (omega (arith, c.loop-tree.invariant.place, c.loop-tree.invariant.behind, c.loop-tree-test.true))
    c.put_u32.ensures.before c.put_u32.ensures.bytes c.put_u32.ensures.after in
    table_put c.args.trees.now c.loop-tree.tree-index c.tree-item.result c.tree-item.is c.loop-tree-test.true c.loop-tree.here c.args.at
    c.len-next.result _ _ c.loop-tree.out.items _ c.write_table.new.out.items
    c.requires.writable (c.len-next.ensures ∙ c.loop-tree.out.ok.0)
    (ap (λ n. n - c.loop-tree.here) c.table_place.ensures) put c.in_ok-write_table.ensures c.loop-tree.invariant

pub write_elements-returns : goal.write_elements-returns
write_elements-returns t c = tables_put c.args.trees.now c.loop-tree.tree-index c.loop-tree.here c.args.at _ c.loop-tree.out.items
    (omega arith) c.loop-tree.invariant

pub write_table-write_head-requires-clause-writable : goal.write_table-write_head-requires-clause-writable
write_table-write_head-requires-clause-writable t c =
    let v : view c.args.tree.now ≡ fields_view c.as_slice-slots.result.now =
    view_is c.args.tree.now ∙ ap fields_view (sym c.as_slice-slots.ensures) in
    rw (← v) c.requires.writable

pub write_table-write_head-requires-clause-small : goal.write_table-write_head-requires-clause-small
write_table-write_head-requires-clause-small t c =
    let v : view c.args.tree.now ≡ fields_view c.as_slice-slots.result.now =
    view_is c.args.tree.now ∙ ap fields_view (sym c.as_slice-slots.ensures) in
    let u = (ends_up (view c.args.tree.now) (inline_end (view c.args.tree.now) c.args.p)).more in
    rw (← v) (omega (arith, u, c.requires.small))

pub write_table-push_padding-requires : goal.write_table-push_padding-requires
write_table-push_padding-requires t c =
    let v : view c.args.tree.now ≡ fields_view c.as_slice-slots.result.now =
    view_is c.args.tree.now ∙ ap fields_view (sym c.as_slice-slots.ensures) in
    let f = few c.as_slice-slots.result.now (rw (← v) c.requires.writable) in
    omega (arith, f.0)

pub write_table-write_fields-requires : goal.write_table-write_fields-requires
write_table-write_fields-requires t c =
    let v : view c.args.tree.now ≡ fields_view c.as_slice-slots.result.now =
    view_is c.args.tree.now ∙ ap fields_view (sym c.as_slice-slots.ensures) in
    let z = ap weight v in
    let m = members_fields c.as_slice-slots.result.now in
    let writable : Writable (fields 0) (fields_view c.as_slice-slots.result.now) = rw (← v) c.requires.writable in
    let l = length-append c.write_head.new.out.items (padding (8 * length c.as_slice-slots.result.now)) in
    let y = length-replicate {A = ℕ} (8 * length c.as_slice-slots.result.now) 0 in
    let g = ap length c.in_ok-push_padding.ensures in
    let e = places_end (fields_view c.as_slice-slots.result.now) c.args.p
    (8 * length c.as_slice-slots.result.now) c.args.out.now.items c.write_head.new.out.items c.push_padding.new.out.items writable
    c.requires.place (omega (arith, m)) c.in_ok-write_head.ensures c.in_ok-push_padding.ensures in
    (omega (arith, z), (writable, (omega (arith, l, y, g, c.len-at.ensures ∙ c.write_head.new.out.ok.0), rw e (rw (← v) c.requires.small))))

pub write_table-returns : goal.write_table-returns
write_table-returns t c =
    let v : view c.args.tree.now ≡ fields_view c.as_slice-slots.result.now =
    view_is c.args.tree.now ∙ ap fields_view (sym c.as_slice-slots.ensures) in
    let m = members_fields c.as_slice-slots.result.now in
    let writable : Writable (fields 0) (fields_view c.as_slice-slots.result.now) = rw (← v) c.requires.writable in
    rw v (table_joined (fields_view c.as_slice-slots.result.now) c.args.p c.len-at.result
    (8 * length c.as_slice-slots.result.now) c.args.out.now.items c.write_head.new.out.items c.push_padding.new.out.items
    c.write_fields.new.out.items
    writable c.requires.place (c.len-at.ensures ∙ c.write_head.new.out.ok.0)
    (omega (arith, m)) c.in_ok-write_head.ensures c.in_ok-push_padding.ensures c.in_ok-write_fields.ensures)

pub write_target-write_vector-requires : goal.write_target-write_vector-requires
write_target-write_vector-requires t c =
    let e = tables_need c.args.slot.now c.in-Tables.trees c.as_slice.result.now c.args.p c.in-Tables.is c.as_slice.ensures in
    let z = tables_below c.args.slot.now c.in-Tables.trees c.as_slice.result.now c.in-Tables.is c.as_slice.ensures in (
      omega (arith, z),
      (
        elements_below c.args.slot.now c.in-Tables.trees c.as_slice.result.now c.in-Tables.is c.as_slice.ensures
            c.requires.writable,
        (c.requires.place, omega (arith, e, c.requires.small)),
      ),
    )

pub write_vector-overflow_cast-trees : goal.write_vector-overflow_cast-trees
write_vector-overflow_cast-trees t c =
    let u = vector_up c.args.trees.now (c.args.p + 4 + 4 * length c.args.trees.now) _ c.requires.small in
    omega (arith, u)

pub write_vector-overflow_add-p : goal.write_vector-overflow_add-p
write_vector-overflow_add-p t c =
    let u = vector_up c.args.trees.now (c.args.p + 4 + 4 * length c.args.trees.now) _ c.requires.small in
    omega (arith, u)

pub write_vector-push_padding-requires : goal.write_vector-push_padding-requires
write_vector-push_padding-requires t c =
    let u = vector_up c.args.trees.now (c.args.p + 4 + 4 * length c.args.trees.now) _ c.requires.small in
    omega (arith, u)

pub write_vector-write_elements-requires : goal.write_vector-write_elements-requires
write_vector-write_elements-requires t c =
    let e = vector_places c.args.p (length c.args.trees.now)
    (4 * length c.args.trees.now) c.args.out.now.items c.push_u32.new.out.items c.push_padding.new.out.items c.requires.place refl
    c.in_ok-push_u32.ensures c.in_ok-push_padding.ensures in
    (omega arith, (c.requires.writable, (e, rw e c.requires.small)))

pub write_vector-returns : goal.write_vector-returns
write_vector-returns t c =
    let m = members_tables c.args.trees.now in
    vector_joined (tables_view c.args.trees.now) c.args.p (length c.args.trees.now)
    (4 * length c.args.trees.now) c.args.out.now.items c.push_u32.new.out.items c.push_padding.new.out.items
    c.write_elements.new.out.items
    c.requires.place refl c.in_ok-push_u32.ensures c.in_ok-push_padding.ensures c.in_ok-write_elements.ensures

pub write_target-returns-in-Tables : goal.write_target-returns-in-Tables
write_target-returns-in-Tables t c =
    let e = tables_bytes c.args.slot.now c.in-Tables.trees c.as_slice.result.now c.args.p c.in-Tables.is c.as_slice.ensures in
    rw e c.write_vector.ensures

pub write_target-write_pairs-requires : goal.write_target-write_pairs-requires
write_target-write_pairs-requires t c =
    let e = pairs_need c.args.slot.now c.in-Pairs.pairs c.as_slice-in-Pairs.result.now c.args.p c.in-Pairs.is c.as_slice-in-Pairs.ensures in
    omega (arith, e, c.requires.small)

pub write_target-returns-in-Pairs : goal.write_target-returns-in-Pairs
write_target-returns-in-Pairs t c =
    let e = pairs_bytes c.args.slot.now c.in-Pairs.pairs c.as_slice-in-Pairs.result.now c.args.p c.in-Pairs.is
    c.as_slice-in-Pairs.ensures in
    rw e c.write_pairs.ensures
