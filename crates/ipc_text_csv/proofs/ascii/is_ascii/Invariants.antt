use Rattle.std.proofs.Common.{◌≡◌, true, length}
use Rattle.std.specs.Str.{IsAscii}
use Rattle.ipc_text_csv.proofs.ascii.is_ascii.Given as goal

-- with the rest, all are ASCII
abbrev pub invariant-loop-eight : goal.invariant-loop-eight
invariant-loop-eight l = l.good ≡ true → IsAscii l.rest → IsAscii l.bytes

-- the bytes that are left
abbrev pub decreases-loop-eight : goal.decreases-loop-eight
decreases-loop-eight l = length l.rest
