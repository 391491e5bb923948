use Rattle.ipc_model.proofs.Wider.{greatest, greatest_covers}
use Rattle.ipc_stream_read.proofs.OneReading.{table_same}
use Rattle.ipc_stream_read.proofs.Wider.{denotes_wider}
use Rattle.ipc_stream_read.proofs.laws.one_table.Goals as goal

pub returns : goal.returns
returns c limits others x t u d e h k =
    table_same greatest x t u d e (denotes_wider limits greatest x t d (greatest_covers limits) h)
    (denotes_wider others greatest x u e (greatest_covers others) k)
