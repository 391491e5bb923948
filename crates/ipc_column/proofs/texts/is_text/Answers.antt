use Rattle.ipc_column.proofs.lending.Slices.{utf8_tests}
use Rattle.ipc_column.proofs.texts.is_text.Goals as goal

pub returns : goal.returns
returns c = utf8_tests c.args.bytes.now c.is_utf8.result c.is_utf8.ensures
