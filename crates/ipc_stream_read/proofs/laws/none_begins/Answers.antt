use Rattle.std.proofs.Common.{◌++◌}
use Rattle.ipc_model.proofs.Wider.{greatest, greatest_covers}
use Rattle.ipc_stream_read.specs.declared.end.End.TheVariants.{Mark}
use Rattle.ipc_stream_read.proofs.OneReading.{none_longer}
use Rattle.ipc_stream_read.proofs.Wider.{denotes_wider}
use Rattle.ipc_stream_read.proofs.laws.none_begins.Goals as goal

pub returns : goal.returns
returns c limits others x w t u e h k =
    none_longer {limits = greatest} x w t u e (denotes_wider limits greatest x t Mark (greatest_covers limits) h)
    (denotes_wider others greatest (x ++ w) u e (greatest_covers others) k)
