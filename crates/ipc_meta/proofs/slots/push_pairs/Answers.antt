use Rattle.std.proofs.Common.{◌∙◌, ap, map, arith}
use Rattle.ipc_meta.specs.Written.{pair_tree}
use Rattle.ipc_meta.proofs.written.WrittenTrees.{push_pairs_more}
use Rattle.ipc_meta.proofs.slots.push_pairs.Goals as goal

pub returns-in_ok-push : goal.returns-in_ok-push
returns-in_ok-push c = push_pairs_more c.args.number c.args.slots.now.items _ c.in_ok-trees.trees.items c.from_vec.result c.args.pairs.now
    c.in_ok-push.ensures.items c.from_vec.ensures (c.in_ok-trees.ensures ∙ ap (map pair_tree) c.as_slice.ensures)
    (omega (arith, c.len.ensures, c.if-len-gt0.true))
