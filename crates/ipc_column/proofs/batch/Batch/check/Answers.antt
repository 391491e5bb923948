use Rattle.std.proofs.Common.{Ok, ◌≡◌, ◌∙◌, sym, ap, subst, true, arith, rules}
use Rattle.std.proofs.lemmas.Bool.{and_parts, eqb-true}
use Rattle.ipc_model.specs.declared.fault.Fault.TheVariants as fault
use Rattle.ipc_column.specs.Shapes.{shape_of}
use Rattle.ipc_column.specs.DictionaryBatches.{dictionaries_in}
use Rattle.ipc_column.specs.Lending.{layouts_of}
use Rattle.ipc_column.proofs.Fields.{buffers_most}
use Rattle.ipc_column.proofs.lending.Lent.{layouts_cut, nested_columns, nested_layouts}
use Rattle.ipc_column.specs.Nested.{found_columns}
use Rattle.ipc_column.specs.checks.Checks.{Passing, all, all_pass, is_node, is_slot_count}
use Rattle.ipc_column.specs.Columns.{Columns}
use Rattle.ipc_column.proofs.visited.Visits.{visits_most, slots_most}
use Rattle.ipc_column.proofs.visited.Marking.{kept_columns}
use Rattle.ipc_column.proofs.Entries.{nodes_are_entries}
use Rattle.ipc_column.proofs.Laws.{passing, exits, head_failing, columns_failing, ok_rows, err_refuses, only_rows, no_batch}
use Rattle.ipc_column.proofs.batch.Batch.check.Goals as goal

pub check_head-requires : goal.check_head-requires
check_head-requires c = omega (arith, nodes_are_entries c.args.fields.now)

pub assign_buffers-requires-clause-nodes : goal.assign_buffers-requires-clause-nodes
assign_buffers-requires-clause-nodes c = let e = eqb-true _ _ (c.in_ok-check_head.ensures.judged fault.WrongNodeCount) in omega (arith, e)

pub assign_buffers-requires-clause-buffers : goal.assign_buffers-requires-clause-buffers
assign_buffers-requires-clause-buffers c = let e =
    eqb-true _ _ (c.in_ok-check_head.ensures.judged fault.WrongBufferCount) in omega (arith, e)

pub assign_buffers-requires-clause-few_nodes : goal.assign_buffers-requires-clause-few_nodes
assign_buffers-requires-clause-few_nodes c = let e =
    eqb-true _ _ (c.in_ok-check_head.ensures.judged fault.WrongNodeCount) in
    omega (arith, e, nodes_are_entries c.args.fields.now)

pub assign_buffers-requires-clause-few_buffers : goal.assign_buffers-requires-clause-few_buffers
assign_buffers-requires-clause-few_buffers c =
    let e = eqb-true _ _ (c.in_ok-check_head.ensures.judged fault.WrongBufferCount) in omega
    (arith, e, nodes_are_entries c.args.fields.now, buffers_most (shape_of c.args.fields.now))

passed : (c : goal.After-drop-head-3) → Passing c.args.limits.now (dictionaries_in c.args.dictionaries.now) (shape_of c.args.fields.now)
    c.args.head c.args.body.items c.in_ok-share.field-0.rows
passed c =
    let kept = kept_columns c.args.body.items c.in_ok-parts.parts c.deref_mut.result.now c.check_columns.new.parts
    c.deref_mut.ensures.value c.check_columns.auto.parts (rw c.deref.ensures.value at c.check_columns.ensures.columns) in
    rw (c.in_ok-share.ensures, c.in_ok-new.ensures.ok)
    (passing (dictionaries_in c.args.dictionaries.now) (shape_of c.args.fields.now) c.args.head c.args.body.items
    c.unsigned_abs-count.result _ (search rules)
    (kept ∙ c.in_ok-parts.ensures.parts c.args.body.items)
    (λ why. rw (c.len.ensures ∙ c.args.body.ok.0) at (c.in_ok-check_head.ensures.judged why))
    (λ why. subst (λ (cs : Columns). all_pass why c.unsigned_abs-count.result cs ≡ true) (sym kept)
    (rw (c.deref.ensures.value, c.deref_mut.ensures.value) at (c.in_ok-slot_tests.ensures.judged why))))

pub returns-clause-rows : goal.returns-clause-rows
returns-clause-rows c =
    ok_rows c.args.limits.now (dictionaries_in c.args.dictionaries.now) c.args.fields.now
    c.args.head c.args.body.items (Ok c.in_ok-share.field-0) (passed c)

pub returns-clause-only : goal.returns-clause-only
returns-clause-only c =
    only_rows (dictionaries_in c.args.dictionaries.now) c.args.fields.now
    c.args.head c.args.body.items (Ok c.in_ok-share.field-0) (returns-clause-rows c) tt

pub returns-in_err-check_head-clause-refused : goal.returns-in_err-check_head-clause-refused
returns-in_err-check_head-clause-refused c =
    err_refuses c.args.limits.now (dictionaries_in c.args.dictionaries.now) c.args.fields.now c.args.head c.args.body.items _
    (exits c.args.limits.now c.from_residual.result _ (dictionaries_in c.args.dictionaries.now)
    (shape_of c.args.fields.now) c.args.head c.args.body.items
    c.from_residual.ensures.1
    (head_failing c.args.limits.now c.in_err-check_head.field-0.0 (dictionaries_in c.args.dictionaries.now)
    (shape_of c.args.fields.now) c.args.head c.args.body.items
    (rw (c.len.ensures ∙ c.args.body.ok.0) at c.in_err-check_head.ensures.judged)
    (rw (c.len.ensures ∙ c.args.body.ok.0) at c.in_err-check_head.ensures.counted)))

pub returns-in_err-check_head-clause-only : goal.returns-in_err-check_head-clause-only
returns-in_err-check_head-clause-only c =
    only_rows (dictionaries_in c.args.dictionaries.now) c.args.fields.now c.args.head c.args.body.items c.from_residual.result
    (no_batch c.args.limits.now (dictionaries_in c.args.dictionaries.now) c.args.fields.now c.args.head c.args.body.items _ _
    c.from_residual.ensures.1) (returns-in_err-check_head-clause-refused c)

pub returns-in_err-slot_tests-clause-refused : goal.returns-in_err-slot_tests-clause-refused
returns-in_err-slot_tests-clause-refused c =
    err_refuses c.args.limits.now (dictionaries_in c.args.dictionaries.now) c.args.fields.now c.args.head c.args.body.items _
    (exits c.args.limits.now c.from_residual-in_err-slot_tests.result _
    (dictionaries_in c.args.dictionaries.now) (shape_of c.args.fields.now) c.args.head c.args.body.items
    c.from_residual-in_err-slot_tests.ensures.1
    (columns_failing c.args.limits.now c.in_err-slot_tests.field-0.0
    (dictionaries_in c.args.dictionaries.now) (shape_of c.args.fields.now) c.args.head c.args.body.items c.unsigned_abs-count.result
    _ (search rules)
    (c.in_ok-parts.ensures.parts c.args.body.items)
    (λ why. rw (c.len.ensures ∙ c.args.body.ok.0) at (c.in_ok-check_head.ensures.judged why))
    (rw (c.deref.ensures.value, c.deref_mut.ensures.value) at c.in_err-slot_tests.ensures.judged)
    (rw (c.deref.ensures.value, c.deref_mut.ensures.value) at c.in_err-slot_tests.ensures.shown_last)))

pub returns-in_err-slot_tests-clause-only : goal.returns-in_err-slot_tests-clause-only
returns-in_err-slot_tests-clause-only c =
    only_rows (dictionaries_in c.args.dictionaries.now) c.args.fields.now c.args.head c.args.body.items
    c.from_residual-in_err-slot_tests.result
    (no_batch c.args.limits.now (dictionaries_in c.args.dictionaries.now) c.args.fields.now c.args.head c.args.body.items _ _
    c.from_residual-in_err-slot_tests.ensures.1)
    (returns-in_err-slot_tests-clause-refused c)

pub check_columns-requires : goal.check_columns-requires
check_columns-requires c =
    let nodes = eqb-true _ _ (c.in_ok-check_head.ensures.judged fault.WrongNodeCount) in
    let good : all (is_node c.args.limits.now) c.args.head.nodes ≡ true =
    (and_parts (is_slot_count c.args.limits.now c.args.head.length) (all (is_node c.args.limits.now) c.args.head.nodes)
    (c.in_ok-check_head.ensures.judged fault.BadNode)).1 in
    let most = visits_most c.args.limits.now (dictionaries_in c.args.dictionaries.now)
    (shape_of c.args.fields.now) c.args.head c.args.body.items good (omega (arith, nodes)) in
    let few = slots_most c.args.limits.now c.args.head.nodes good in
    rw (c.deref.ensures.value, c.deref_mut.ensures.value, c.in_ok-parts.ensures.parts c.args.body.items)
    (omega (arith, most, few, nodes, nodes_are_entries c.args.fields.now))

pub returns-clause-tests : goal.returns-clause-tests
returns-clause-tests c =
    let nodes = eqb-true _ _ (c.in_ok-check_head.ensures.judged fault.WrongNodeCount) in
    let good : all (is_node c.args.limits.now) c.args.head.nodes ≡ true =
    (and_parts (is_slot_count c.args.limits.now c.args.head.length) (all (is_node c.args.limits.now) c.args.head.nodes)
    (c.in_ok-check_head.ensures.judged fault.BadNode)).1 in
    let most = visits_most c.args.limits.now (dictionaries_in c.args.dictionaries.now)
    (shape_of c.args.fields.now) c.args.head c.args.body.items good (omega (arith, nodes)) in
    let visited = rw (c.deref.ensures.value, c.deref_mut.ensures.value, c.in_ok-parts.ensures.parts c.args.body.items) at
    c.in_ok-slot_tests.ensures.visited in
    rw c.in_ok-share.ensures (omega (arith, visited, most))

pub returns-clause-layouts : goal.returns-clause-layouts
returns-clause-layouts c =
    rw (c.in_ok-share.ensures, c.in_ok-new.ensures.ok)
    (nested_layouts c.args.body.items _
    ∙ ap layouts_of (kept_columns c.args.body.items c.in_ok-parts.parts c.deref_mut.result.now c.check_columns.new.parts
    c.deref_mut.ensures.value
    c.check_columns.auto.parts (rw c.deref.ensures.value at c.check_columns.ensures.columns)
    ∙ c.in_ok-parts.ensures.parts c.args.body.items)
    ∙ layouts_cut (dictionaries_in c.args.dictionaries.now) c.args.fields.now c.args.head c.args.body.items 0 0)

pub returns-clause-buffers : goal.returns-clause-buffers
returns-clause-buffers c =
    rw (c.in_ok-share.ensures, c.in_ok-new.ensures.ok)
    (nested_columns c.args.body.items _
    ∙ ap found_columns (kept_columns c.args.body.items c.in_ok-parts.parts c.deref_mut.result.now c.check_columns.new.parts
    c.deref_mut.ensures.value
    c.check_columns.auto.parts (rw c.deref.ensures.value at c.check_columns.ensures.columns)
    ∙ c.in_ok-parts.ensures.parts c.args.body.items))
