use Rattle.std.proofs.Common.{arith}
use Rattle.ipc_build.specs.Trees.{view}
use Rattle.ipc_build.specs.Layout.{inline_end}
use Rattle.ipc_build.proofs.Upward.{ends_up}
use Rattle.ipc_build.proofs.Pieces.{vector_ends, buffer_joined}
use Rattle.ipc_build.proofs.builder.write_buffer.Goals as goal

pub overflow_cast-table_place : goal.overflow_cast-table_place
overflow_cast-table_place c =
    let r = vector_ends (view c.args.tree.now) in
    let u = (ends_up (view c.args.tree.now) (inline_end (view c.args.tree.now) 4)).more in
    omega (arith, r, u, c.requires.small, c.table_place.ensures)

pub write_table-requires-clause-small : goal.write_table-requires-clause-small
write_table-requires-clause-small c =
    let r = vector_ends (view c.args.tree.now) in
    omega (arith, r, c.requires.small)

pub returns : goal.returns
returns c = buffer_joined (view c.args.tree.now) c.table_place.result c.args.out.now.items c.push_u32.new.out.items
    c.write_table.new.out.items c.table_place.ensures c.in_ok-push_u32.ensures c.in_ok-write_table.ensures
