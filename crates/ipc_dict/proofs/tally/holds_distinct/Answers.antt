use Rattle.ipc_dict.proofs.ids.OneId as law
use Rattle.ipc_dict.proofs.tally.holds_distinct.Goals as goal

pub returns : goal.returns
returns c = law.holds_distinct
