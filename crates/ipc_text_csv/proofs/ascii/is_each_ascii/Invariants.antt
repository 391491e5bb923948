use Rattle.std.proofs.Common.{ℕ, ◌<◌, slice_index}
use Rattle.ipc_text_csv.proofs.ascii.is_each_ascii.Given as goal

-- the first bytes are ASCII
abbrev pub invariant-loop-byte : goal.invariant-loop-byte
invariant-loop-byte l = (k : ℕ) → k < l.byte-index → slice_index l.bytes k < 128
