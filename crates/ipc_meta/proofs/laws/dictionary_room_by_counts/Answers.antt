use Rattle.ipc_meta.proofs.written.WrittenOrder.{dictionary_needs}
use Rattle.ipc_meta.proofs.laws.dictionary_room_by_counts.Goals as goal

pub returns : goal.returns
returns c = λ id head m. dictionary_needs id head m
