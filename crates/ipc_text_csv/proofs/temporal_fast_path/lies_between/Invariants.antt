use Rattle.std.proofs.Common.{◌≡◌, ℕ, ◌<◌, ◌≤◌, true, get_or}
use Rattle.ipc_text_csv.proofs.temporal_fast_path.lies_between.Given as goal

-- the first bytes lie between the two
abbrev pub invariant-loop-i : goal.invariant-loop-i
invariant-loop-i l = l.lies ≡ true → (k : ℕ) → k < l.i
    → (get_or l.least k 0 ≤ get_or l.text k 0) × (get_or l.text k 0 ≤ get_or l.most k 0)
