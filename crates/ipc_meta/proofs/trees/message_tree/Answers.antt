use Rattle.std.proofs.Common.{◌∙◌, refl, arith}
use Rattle.std.specs.Int.{w64}
use Rattle.std.proofs.Math.Facts.{sfits_to_z, to_z-of_z, to_z_pos}
use Rattle.ipc_meta.proofs.written.WrittenTrees.{message_made}
use Rattle.ipc_meta.proofs.trees.message_tree.Goals as goal

pub returns : goal.returns
returns c =
    message_made c.args.code c.args.body _ _ c.table_of.result c.args.header c.in_ok-slots.slots.items _ c.args.pairs.now
    c.table_of.ensures c.in_ok-push_pairs.ensures c.in_ok-slots.ensures.items refl
    (rw c.cast_signed.ensures (to_z-of_z {w = w64} (sfits_to_z (record { fits = c.ranges.body.fits })) ∙ to_z_pos w64 (omega (
      arith,
      c.requires,
    ))))
