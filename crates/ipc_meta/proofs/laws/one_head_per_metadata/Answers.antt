use Rattle.ipc_model.proofs.Wider.{greatest, greatest_covers}
use Rattle.ipc_meta.proofs.Unique.{head_same}
use Rattle.ipc_meta.proofs.Wider.{head_wider}
use Rattle.ipc_meta.proofs.laws.one_head_per_metadata.Goals as goal

pub returns : goal.returns
returns c = λ limits others metadata g h m n a b.
    head_same {limits = greatest} metadata g h m n (head_wider limits greatest metadata g m (greatest_covers limits) a)
    (head_wider others greatest metadata h n (greatest_covers others) b)
