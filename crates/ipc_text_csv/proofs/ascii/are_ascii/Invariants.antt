use Rattle.std.proofs.Common.{◌≡◌, ℕ, ◌<◌, true, slice_index}
use Rattle.ipc_text_csv.proofs.ascii.are_ascii.Given as goal

-- the first bytes are ASCII
abbrev pub invariant-loop-i : goal.invariant-loop-i
invariant-loop-i l = l.good ≡ true → (k : ℕ) → k < l.i → slice_index l.eight k < 128
