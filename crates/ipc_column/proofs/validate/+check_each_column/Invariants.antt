use Rattle.std.proofs.Common.{◌≡◌, drop}
use Rattle.ipc_model.specs.declared.fault.Fault.{Fault}
use Rattle.ipc_column.specs.Columns.{every}
use Rattle.ipc_column.specs.checks.Checks.{passes}
use Rattle.ipc_column.specs.Views.{part_columns}
use Rattle.ipc_column.proofs.validate.+check_each_column.Given as goal

abbrev pub invariant-check_each_column-loop-part : goal.invariant-check_each_column-loop-part
invariant-check_each_column-loop-part l = (why : Fault)
    → every (passes why) (part_columns l.body (drop l.part-index l.parts)) ≡ every (passes why) (part_columns l.body l.parts)
