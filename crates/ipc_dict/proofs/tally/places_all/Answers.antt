use Rattle.ipc_dict.proofs.Places as law
use Rattle.ipc_dict.proofs.tally.places_all.Goals as goal

pub returns : goal.returns
returns c = law.places_all
