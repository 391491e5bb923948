use Rattle.std.proofs.Common.{◌≡◌, length}
use Rattle.ipc_text_csv.proofs.reader.resize.Given as goal

-- one value more for each turn
abbrev pub invariant-loop-place : goal.invariant-loop-place
invariant-loop-place l = length l.row.items ≡ l.place
