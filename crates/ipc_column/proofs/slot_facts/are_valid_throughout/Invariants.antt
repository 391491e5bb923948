use Rattle.std.proofs.Common.{◌≡◌, ℕ, List, drop, map}
use Rattle.std.specs.Prelude.{◌&&◌}
use Rattle.ipc_column.specs.checks.Marks.{each_valid, mark}
use Rattle.ipc_column.proofs.slot_facts.are_valid_throughout.Given as goal

abbrev pub invariant-loop-part : goal.invariant-loop-part
invariant-loop-part l = (body : List ℕ)
    → (l.known && each_valid (map (mark body) (drop l.part-index l.parts))) ≡ each_valid (map (mark body) l.parts)
