use Rattle.std.proofs.Common.{rules}
use Rattle.ipc_column.proofs.FittingValues.{own_fits}
use Rattle.ipc_encode.proofs.tree.fits_leaf.Goals as goal

pub returns-then-is_empty : goal.returns-then-is_empty
returns-then-is_empty c = λ yes. rw c.in-Some.is (own_fits _ c.args.value.now (search rules) (c.fits_own_type.ensures.0 yes))
