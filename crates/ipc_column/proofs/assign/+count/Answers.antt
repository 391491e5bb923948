use Rattle.std.proofs.Common.{rules, arith}
use Rattle.ipc_model.specs.declared.schema.Field.TheViews.{the_lemmas}
use Rattle.ipc_column.proofs.Fields.{nodes_from, buffers_from, nodes_done, buffers_done}
use Rattle.ipc_column.proofs.assign.+count.Goals as goal

pub count-count_field-place-requires : goal.count-count_field-place-requires
count-count_field-place-requires t c =
    let n = nodes_from c.args.fields.now c.loop-field.field-index c.field-item.result (omega arith) c.field-item.is in
    let b = buffers_from c.args.fields.now c.loop-field.field-index c.field-item.result (omega arith) c.field-item.is in
    (search (rules, the_lemmas), (omega (arith, n), omega (arith, b)))

pub count-loop-field-preserved : goal.count-loop-field-preserved
count-loop-field-preserved t c =
    let n = nodes_from c.args.fields.now c.loop-field.field-index c.field-item.result (omega arith) c.field-item.is in
    let b = buffers_from c.args.fields.now c.loop-field.field-index c.field-item.result (omega arith) c.field-item.is in
    record { nodes = omega (arith, n); buffers = omega (arith, b) }

pub count-returns-clause-nodes : goal.count-returns-clause-nodes
count-returns-clause-nodes t c =
    let n = nodes_done c.args.fields.now c.loop-field.field-index (omega arith) in
    omega (arith, n)

pub count-returns-clause-buffers : goal.count-returns-clause-buffers
count-returns-clause-buffers t c =
    let b = buffers_done c.args.fields.now c.loop-field.field-index (omega arith) in
    omega (arith, b)
