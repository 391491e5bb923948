use Rattle.std.proofs.Common.{◌≡◌, ◌+◌, ◌*◌, ◌++◌, take, length}
use Rattle.hex.specs.Hex.{encode_lower}
use Rattle.job_print.proofs.hexadecimal.put_digits_at.Given as goal

-- the digits of the bytes before the rest were written
abbrev pub invariant-loop-first : goal.invariant-loop-first
invariant-loop-first l = record {
  end : l.end + 2 * length l.rest ≡ l.at + 2 * length l.bytes;
  room : length l.text ≡ length l.initial.text;
  text : take l.end l.text ++ encode_lower l.rest ≡ take l.at l.initial.text ++ encode_lower l.bytes;
}

-- the bytes that are left
abbrev pub decreases-loop-first : goal.decreases-loop-first
decreases-loop-first l = length l.rest
