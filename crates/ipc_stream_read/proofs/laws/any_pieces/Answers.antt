use Rattle.ipc_stream_read.proofs.Pieces.{any_pieces}
use Rattle.ipc_stream_read.proofs.laws.any_pieces.Goals as goal

pub returns : goal.returns
returns c = any_pieces
