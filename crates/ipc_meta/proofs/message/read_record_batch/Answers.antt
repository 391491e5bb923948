use Rattle.std.proofs.Common.{refl}
use Rattle.std.proofs.lemmas.Result.{err_from_is_err_and}
use Rattle.ipc_meta.specs.Reading.{batch_read}
use Rattle.ipc_meta.proofs.Complete.{batch_complete}
use Rattle.ipc_meta.proofs.refused.Refused.{batch_refused}
use Rattle.ipc_meta.proofs.Sound.{batch_sound}
use Rattle.ipc_meta.proofs.Unique.{batch_one, pairs_same, refused}
use Rattle.ipc_meta.proofs.message.read_record_batch.Goals as goal

pub returns-in_err-batch-clause-only : goal.returns-in_err-batch-clause-only
returns-in_err-batch-clause-only c = λ batch pairs at beside.
    let p = err_from_is_err_and c.from_residual.result c.from_residual.ensures.1 in
    rw (p.1, p.2) (refused _ (batch_read c.args.table.now) batch (batch, pairs) (batch_complete c.args.table.now batch at)
    c.in_err-batch.ensures)

pub returns-in_err-batch-clause-refused : goal.returns-in_err-batch-clause-refused
returns-in_err-batch-clause-refused c =
    let p = err_from_is_err_and c.from_residual.result c.from_residual.ensures.1 in
    rw (p.1, p.2) (λ b has beside ne. batch_refused c.args.limits.now b _ _ has (c.in_err-batch.ensures ne))

pub returns-clause-finds : goal.returns-clause-finds
returns-clause-finds c = (batch_sound _ _ c.in_ok-batch.ensures, c.in_ok-read_batch_pairs.ensures.finds)

pub returns-clause-only : goal.returns-clause-only
returns-clause-only c = λ batch pairs at beside.
    rw (
      batch_one c.args.table.now batch c.in_ok-batch.batch at (batch_sound _ _ c.in_ok-batch.ensures),
      pairs_same c.args.root.now pairs _ beside c.in_ok-read_batch_pairs.ensures.finds,
    ) refl
