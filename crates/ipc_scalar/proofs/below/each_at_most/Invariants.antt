use Rattle.std.proofs.Common.{◌↔◌, ℕ, ◌*◌, ◌≤◌, ◌<◌, [], get_or}
use Rattle.ipc_scalar.specs.Bytes.{num}
use Rattle.ipc_scalar.proofs.below.each_at_most.Given as goal

abbrev pub invariant-loop-block : goal.invariant-loop-block
invariant-loop-block g l = g.L.Lanes.at_most l.most l.top
    ↔ (g.L.Lanes.at_most l.most l.initial.top
    × ((j : ℕ) → j < l.block-index → (k : ℕ) → k < g.L.Lanes.count
    → num (get_or l.blocks j []) (g.L.Lanes.width * k) g.L.Lanes.width ≤ l.most))
