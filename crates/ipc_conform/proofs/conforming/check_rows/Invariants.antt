use Rattle.std.proofs.Common.{take}
use Rattle.std.specs.List.{AllByRecursion}
use Rattle.ipc_model.specs.Fits.{RowFits}
use Rattle.ipc_conform.proofs.conforming.check_rows.Given as goal

-- the first rows fit
abbrev pub invariant-loop-number : goal.invariant-loop-number
invariant-loop-number l = AllByRecursion (RowFits l.schema.fields) (take l.number l.batch.rows)
