use Rattle.std.proofs.Common.{◌∙◌, sym}
use Rattle.ipc_column.proofs.lending.Widths.{byte_is}
use Rattle.ipc_column.proofs.fixed.unsigned_at.Goals as goal

pub returns-in-B8 : goal.returns-in-B8
returns-in-B8 c = rw c.in-B8.is (c.from.ensures ∙ sym (byte_is c.args.values.now c.args.slot))
