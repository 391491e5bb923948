use Rattle.std.proofs.Common.{◌≡◌, ◌+◌, ◌*◌, length, take}
use Rattle.ipc_text_csv.proofs.HexApart.{Begun}
use Rattle.ipc_text_csv.proofs.hexadecimal.decode_pairs.Given as goal

-- the bytes before the rest were decoded
abbrev pub invariant-loop-first : goal.invariant-loop-first
invariant-loop-first l = record {
  place : length l.rest + 2 * l.at ≡ length l.text;
  room : length l.bytes ≡ length l.initial.bytes;
  begun : Begun l.text (take l.at l.bytes) l.rest l.good;
}

-- the digits that are left
abbrev pub decreases-loop-first : goal.decreases-loop-first
decreases-loop-first l = length l.rest
