use Rattle.std.proofs.Common.{◌∙◌}
use Rattle.ipc_text_temporal.proofs.TwoDigits.{pair_digits}
use Rattle.ipc_text_temporal.proofs.pairs.pair.Goals as goal

pub returns : goal.returns
returns c = c.to_le_bytes.ensures ∙ pair_digits c.args.number c.requires
