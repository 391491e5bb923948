use Rattle.ipc_stream_read.proofs.Pieces.{table_pieces}
use Rattle.ipc_stream_read.proofs.laws.table_pieces.Goals as goal

pub returns : goal.returns
returns c = table_pieces
