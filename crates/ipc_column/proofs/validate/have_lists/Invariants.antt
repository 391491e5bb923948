use Rattle.std.proofs.Common.{◌≡◌, ◌*◌, ℕ, List, drop}
use Rattle.std.specs.Prelude.{◌&&◌}
use Rattle.ipc_column.specs.checks.Checks.{have_slots}
use Rattle.ipc_column.specs.Views.{part_columns}
use Rattle.ipc_column.proofs.validate.have_lists.Given as goal

abbrev pub invariant-loop-part : goal.invariant-loop-part
invariant-loop-part l = (body : List ℕ)
    → (l.long && have_slots (l.size * l.lists) (part_columns body (drop l.part-index l.parts)))
    ≡ have_slots (l.size * l.lists) (part_columns body l.parts)
