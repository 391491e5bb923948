use Rattle.std.proofs.Common.{◌≡◌, length}
use Rattle.ipc_text_csv.proofs.HexPairs.{Decoded}
use Rattle.ipc_text_csv.proofs.hexadecimal.decode_each.Given as goal

-- the first pairs were decoded
abbrev pub invariant-loop-i : goal.invariant-loop-i
invariant-loop-i l = record {
  room : length l.bytes ≡ length l.initial.bytes;
  decoded : Decoded l.text l.bytes l.i l.good;
}
