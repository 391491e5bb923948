use Rattle.std.proofs.Common.{◌∙◌}
use Rattle.ipc_column.proofs.lending.Chunks.{slot_8}
use Rattle.ipc_column.proofs.fixed.u64_at.Goals as goal

pub returns : goal.returns
returns c = c.from_le_bytes.ensures ∙ slot_8 c.args.values.now _ c.args.slot _ c.as_chunks.ensures.front c.requires
