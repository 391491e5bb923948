use Rattle.std.proofs.Common.{◌+◌, ◌*◌, ◌∙◌, length, ap, arith}
use Rattle.ipc_build.specs.Trees.{fields_view}
use Rattle.ipc_build.specs.Layout.{prefix_place}
use Rattle.ipc_build.proofs.Views.{members_fields}
use Rattle.ipc_build.proofs.Pieces.{few, head_joined}
use Rattle.ipc_build.proofs.tables.write_head.Goals as goal

pub prefix_place-table-requires : goal.prefix_place-table-requires
prefix_place-table-requires c =
    omega (arith, c.requires.small, c.entry_count.ensures.value)

pub overflow_cast-size : goal.overflow_cast-size
overflow_cast-size c =
    let f = few c.args.slots.now c.requires.writable in
    omega (arith, f.1, c.entry_count.ensures.value)

pub overflow_cast-slots : goal.overflow_cast-slots
overflow_cast-slots c =
    let f = few c.args.slots.now c.requires.writable in
    omega (arith, f.0)

pub returns : goal.returns
returns c =
    let m = members_fields c.args.slots.now in
    let t = c.entry_count.ensures.value in
    head_joined (fields_view c.args.slots.now) c.args.p (4 + 2 * c.entry_count.result) c.prefix_place-table.result _ _ _ _ _ _
    (ap (λ n. 4 + 2 * n) t) (c.prefix_place-table.ensures ∙ ap prefix_place (omega (arith, t))) (8 * length c.args.slots.now)
    (omega (arith, m))
    c.in_ok-push_u16.ensures c.in_ok-push_u16-2.ensures c.in_ok-write_entries.ensures c.in_ok-push_padding.ensures c.in_ok-push_u32.ensures
