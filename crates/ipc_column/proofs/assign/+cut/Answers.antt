use Rattle.std.proofs.Common.{◌∙◌, sym, ap, rules, arith}
use Rattle.ipc_model.specs.declared.schema.Field.TheViews.{the_lemmas}
use Rattle.ipc_column.specs.DictionaryBatches.{dictionaries_in}
use Rattle.ipc_column.specs.Views.{part_columns}
use Rattle.ipc_column.specs.Columns.{Columns}
use Rattle.ipc_column.proofs.Fields.{nodes_from, buffers_from, nodes_done, buffers_done, cut_step, cut_done, beside_none, beside}
use Rattle.ipc_column.proofs.assign.+cut.Goals as goal

pub assign_buffers-assign_field-requires : goal.assign_buffers-assign_field-requires
assign_buffers-assign_field-requires t c =
    let n = nodes_from c.args.fields.now c.loop-field.field-index c.field-item.result (omega arith) c.field-item.is in
    let b = buffers_from c.args.fields.now c.loop-field.field-index c.field-item.result (omega arith) c.field-item.is in (
      search (rules, the_lemmas),
      (
        c.requires.dictionaries,
        (
          omega (arith, n),
          (
            omega (arith, b),
            (c.requires.few_nodes, c.requires.few_buffers),
          ),
        ),
      ),
    )

pub assign_buffers-loop-field-preserved : goal.assign_buffers-loop-field-preserved
assign_buffers-loop-field-preserved t c =
    let n = nodes_from c.args.fields.now c.loop-field.field-index c.field-item.result (omega arith) c.field-item.is in
    let b = buffers_from c.args.fields.now c.loop-field.field-index c.field-item.result (omega arith) c.field-item.is in
    record {
      parts = λ body. rw c.in_ok-push.ensures.items
          (cut_step (dictionaries_in c.args.dictionaries.now) c.args.fields.now c.loop-field.field-index c.field-item.result
          c.args.head.now body c.loop-field.parts.items
          c.in_ok-part.part _ _ _ _ _ (omega arith) c.field-item.is
          (c.in_ok-part.ensures.column body) (c.in_ok-part.ensures.children body) c.in_ok-part.ensures.node c.in_ok-part.ensures.buffer
          (c.loop-field.invariant.parts body));
      number = search rules;
      nodes = omega (arith, n, c.in_ok-part.ensures.node);
      buffers = omega (arith, b, c.in_ok-part.ensures.buffer);
    }

pub assign_buffers-returns-clause-parts : goal.assign_buffers-returns-clause-parts
assign_buffers-returns-clause-parts t c = λ body.
    sym (beside_none (part_columns body c.loop-field.parts.items)) ∙
    (ap (λ (ds : Columns). beside (part_columns body c.loop-field.parts.items) ds)
    (sym (cut_done (dictionaries_in c.args.dictionaries.now) c.args.fields.now c.loop-field.field-index c.args.head.now body
    c.loop-field.place.node c.loop-field.place.buffer
    (omega arith)))
    ∙ c.loop-field.invariant.parts body)

pub assign_buffers-returns-clause-node : goal.assign_buffers-returns-clause-node
assign_buffers-returns-clause-node t c =
    let n = nodes_done c.args.fields.now c.loop-field.field-index (omega arith) in
    omega (arith, n)

pub assign_buffers-returns-clause-buffer : goal.assign_buffers-returns-clause-buffer
assign_buffers-returns-clause-buffer t c =
    let b = buffers_done c.args.fields.now c.loop-field.field-index (omega arith) in
    omega (arith, b)
