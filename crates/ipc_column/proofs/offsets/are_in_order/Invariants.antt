use Rattle.std.proofs.Common.{◌≡◌}
use Rattle.ipc_column.specs.checks.Checks.{all_below, is_ascending_at}
use Rattle.ipc_column.proofs.offsets.are_in_order.Given as goal

abbrev pub invariant-loop-i : goal.invariant-loop-i
invariant-loop-i l = l.ordered ≡ all_below (is_ascending_at l.offsets) l.i
