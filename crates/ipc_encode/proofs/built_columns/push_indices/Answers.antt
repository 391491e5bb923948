use Rattle.std.proofs.Common.{add-one, w64, to_z, of_z}
use Rattle.ipc_encode.specs.Numbers.{new_index}
use Rattle.ipc_encode.proofs.Indexed.{slots_more}
use Rattle.ipc_encode.proofs.built_columns.push_indices.Goals as goal

pub loop-index-preserved : goal.loop-index-preserved
loop-index-preserved g c =
    rw add-one (slots_more (new_index (g.N.Renumber.number c.args.numbers.now (to_z w64 (of_z w64 c.args.id)))) c.args.bits
    c.args.indices.now c.loop-index.index-index c.as_number.result c.args.bytes.now.items c.loop-index.bytes.items
    c.push_number.new.values.items c.loop-index-test.true c.as_number.ensures c.loop-index.invariant c.in_ok-push_number.ensures)
