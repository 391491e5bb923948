use Rattle.std.proofs.Common.{arith}
use Rattle.std.proofs.lemmas.Grind.{common_steps}
use Rattle.ipc_text_csv.proofs.Records.{ended}
use Rattle.ipc_text_csv.proofs.record.end_record.Goals as goal

pub returns-clause-record : goal.returns-clause-record
returns-clause-record c delimiter = ended delimiter 0 _ _ (grind (arith, common_steps))
