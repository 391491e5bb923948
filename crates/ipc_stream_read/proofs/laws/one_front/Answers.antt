use Rattle.ipc_model.proofs.Wider.{greatest, greatest_covers}
use Rattle.ipc_stream_read.specs.declared.end.End.TheVariants.{Mark}
use Rattle.ipc_stream_read.proofs.OneReading.{front_one}
use Rattle.ipc_stream_read.proofs.Wider.{denotes_wider}
use Rattle.ipc_stream_read.proofs.laws.one_front.Goals as goal

pub returns : goal.returns
returns c limits others x y rest left t u e d f all joined =
    front_one {limits = greatest} x y rest left t u e (denotes_wider limits greatest x t Mark (greatest_covers limits) d)
    (denotes_wider others greatest y u e (greatest_covers others) f) all joined
