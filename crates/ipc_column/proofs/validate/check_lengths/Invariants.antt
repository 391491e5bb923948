use Rattle.std.proofs.Common.{◌≡◌, drop}
use Rattle.std.specs.Prelude.{◌&&◌}
use Rattle.ipc_model.specs.declared.fault.Fault.TheVariants as fault
use Rattle.ipc_column.specs.Columns.{every_top}
use Rattle.ipc_column.specs.checks.Checks.{top_passes}
use Rattle.ipc_column.specs.Views.{part_columns}
use Rattle.ipc_column.proofs.validate.check_lengths.Given as goal

abbrev pub invariant-loop-part : goal.invariant-loop-part
invariant-loop-part l = (l.same && every_top (top_passes fault.BadNode l.rows) (part_columns l.body (drop l.part-index l.parts)))
    ≡ every_top (top_passes fault.BadNode l.rows) (part_columns l.body l.parts)
