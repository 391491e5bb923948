use Rattle.ipc_column.specs.checks.Checks.{AreCharBoundaries}
use Rattle.ipc_column.proofs.texts.are_char_boundaries.Given as goal

abbrev pub invariant-loop-slot : goal.invariant-loop-slot
invariant-loop-slot l = AreCharBoundaries l.offsets l.text 0 l.slot
