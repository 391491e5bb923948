-- Empty metadata states nothing.
use Rattle.std.proofs.Common.{ℕ, []}
use Rattle.ipc_flat.specs.Flat.{points, table_position}
use Rattle.ipc_flat.specs.Views.{table_from}
use Rattle.ipc_meta.specs.declared.head.Head.{Head}
use Rattle.ipc_meta.specs.Heads.{HeadOf}
use Rattle.ipc_model.specs.declared.limits.Limits.{Limits}

-- metadata of no bytes states no head
pub no_metadata : {limits : Limits} → (g : Head) (m : ℕ) → HeadOf limits [] g m → ⊥
unfolding table_from table_position points
no_metadata g m s = let bad = s.stands in cc
