use Rattle.std.proofs.Common.{FitsSigned, w64}
use Rattle.std.proofs.lemmas.Int.{to_z-of_z}
use Rattle.ipc_text_temporal.proofs.Placed.{plain_front}
use Rattle.ipc_text_temporal.proofs.Plain.{timestamp_plain}
use Rattle.ipc_text_temporal.proofs.texts.timestamp_text.Goals as goal

pub new-requires-clause-plain : goal.new-requires-clause-plain
new-requires-clause-plain c =
    let fits : FitsSigned w64 c.args.number = c.ranges.number in
    plain_front _ _ _ _ (simp to_z-of_z at c.in_ok-len.ensures) (timestamp_plain c.args.unit _ c.args.number)
