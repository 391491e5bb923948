use Rattle.std.proofs.Common.{◌∙◌, ap}
use Rattle.ipc_column.specs.Nested.{slot_values}
use Rattle.job_print.proofs.column_tree.ColumnReader.new.Goals as goal

pub returns : goal.returns
returns c = ap slot_values c.in_ok-tree.ensures ∙ c.slots.ensures.values
