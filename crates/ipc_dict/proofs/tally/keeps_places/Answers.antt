use Rattle.ipc_dict.proofs.Places as law
use Rattle.ipc_dict.proofs.tally.keeps_places.Goals as goal

pub returns : goal.returns
returns c = law.keeps_places
