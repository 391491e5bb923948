use Rattle.std.proofs.Common.{◌+◌, ◌≤◌, length, drop, List}
use Rattle.std.specs.Prelude.{ℤ}
use Rattle.ipc_stream.specs.Canonical.{Replaces, flat}
use Rattle.ipc_stream.proofs.canonical.put_pairs.Given as goal

-- the finished pairs are written; the others have room after them
abbrev pub invariant-loop-pair : goal.invariant-loop-pair
invariant-loop-pair l = ((new : List ℤ) → Replaces l.place (flat (drop l.pair-index l.pairs)) l.target new
    → Replaces l.fn.at (flat l.pairs) l.fn.target new)
    × ((l.place + length (flat (drop l.pair-index l.pairs))) ≤ length l.target)
