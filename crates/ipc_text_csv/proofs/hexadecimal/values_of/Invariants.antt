use Rattle.std.proofs.Common.{◌≡◌, ℕ, ◌<◌, length, slice_index}
use Rattle.ipc_text_csv.proofs.HexPairs.{Tells}
use Rattle.ipc_text_csv.proofs.hexadecimal.values_of.Given as goal

-- the first values were found
abbrev pub invariant-loop-i : goal.invariant-loop-i
invariant-loop-i l = record {
  long : length l.values ≡ 32;
  digit : (k : ℕ) → k < l.i → Tells (slice_index l.text k) (slice_index l.values k);
}
