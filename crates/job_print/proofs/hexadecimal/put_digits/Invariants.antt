use Rattle.std.proofs.Common.{◌≡◌, ◌+◌, ◌*◌, ◌++◌, drop, take, length}
use Rattle.hex.specs.Hex.{encode_lower}
use Rattle.job_print.proofs.hexadecimal.put_digits.Given as goal

-- the digits of the first bytes were written
abbrev pub invariant-loop-byte : goal.invariant-loop-byte
invariant-loop-byte l = record {
  end : l.end ≡ l.at + 2 * l.byte-index;
  room : length l.text ≡ length l.initial.text;
  text : take l.end l.text ++ encode_lower (drop l.byte-index l.bytes) ≡ take l.at l.initial.text ++ encode_lower l.bytes;
}
