use Rattle.std.proofs.Common.{◌∙◌}
use Rattle.ipc_meta.proofs.written.WrittenTrees.{field_made}
use Rattle.ipc_meta.proofs.trees.field_table.Goals as goal

pub returns : goal.returns
returns c =
    field_made c.args.field.now c.table_of-2.result c.table_of.result c.in_ok-slots.slots.items _ _ _ c.in_ok-text_slot.field-0
    c.code.result c.args.children.items c.from_vec.result
    c.table_of-2.ensures c.in_ok-push_pairs.ensures c.in_ok-push.ensures.items c.from_vec.ensures c.requires c.in_ok-push_dictionary.ensures
    c.in_ok-slots.ensures.items c.in_ok-text_slot.ensures c.code.ensures (c.table_of.ensures ∙ c.in_ok-type_slots.ensures)
