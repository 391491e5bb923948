use Rattle.std.proofs.Common.{◌∙◌}
use Rattle.ipc_column.proofs.lending.Chunks.{slot_2}
use Rattle.ipc_column.proofs.fixed.u16_at.Goals as goal

pub returns : goal.returns
returns c = c.from_le_bytes.ensures ∙ slot_2 c.args.values.now _ c.args.slot _ c.as_chunks.ensures.front c.requires
