use Rattle.std.proofs.Common.{drop}
use Rattle.ipc_build.specs.Ascends.{PairsFit}
use Rattle.ipc_build.proofs.room.pairs_room.Given as goal

abbrev pub invariant-loop-first : goal.invariant-loop-first
invariant-loop-first l = PairsFit (drop l._first-index l.pairs) → PairsFit l.pairs
