use Rattle.ipc_meta.proofs.written.WrittenTrees.{schema_made}
use Rattle.ipc_meta.proofs.trees.schema_tree.Goals as goal

pub returns : goal.returns
returns c =
    schema_made c.args.schema.now c.table_of.result c.in_ok-slots.slots.items _ c.in_ok-fields.fields.items c.from_vec.result
    c.table_of.ensures c.in_ok-push_pairs.ensures c.in_ok-slots.ensures.items c.from_vec.ensures c.in_ok-fields.ensures
