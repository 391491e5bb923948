use Rattle.ipc_frame.proofs.Pulls as pulls
use Rattle.ipc_frame.proofs.laws.pulled_as_fed.Goals as goal

pub returns : goal.returns
returns c limits before after came r g worked = pulls.pulled_as_fed limits before after came r g worked
