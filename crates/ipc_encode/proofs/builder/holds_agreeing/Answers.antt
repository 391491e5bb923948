use Rattle.ipc_encode.proofs.Agreeing.{holds_agreeing}
use Rattle.ipc_encode.proofs.builder.holds_agreeing.Goals as goal

pub returns : goal.returns
returns c = holds_agreeing
