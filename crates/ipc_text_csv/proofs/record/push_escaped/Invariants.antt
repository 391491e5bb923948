use Rattle.std.proofs.Common.{◌≡◌, ◌++◌, drop}
use Rattle.csv.specs.Writing.{escaped, default_writer}
use Rattle.ipc_text_csv.proofs.record.push_escaped.Given as goal

abbrev pub invariant-loop-byte : goal.invariant-loop-byte
invariant-loop-byte l =
    l.out.items ++ escaped default_writer (drop l.byte-index l.field) ≡ l.initial.out.items ++ escaped default_writer l.field
