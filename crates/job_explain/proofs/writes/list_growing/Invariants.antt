use Rattle.std.proofs.Common.{◌≡◌, ◌++◌, drop}
use Rattle.job_explain.specs.Writes.{growth_lines}
use Rattle.job_explain.proofs.writes.list_growing.Given as goal

abbrev pub invariant-loop-number : goal.invariant-loop-number
invariant-loop-number l =
    l.out.items ++ growth_lines l.bytes l.number (drop l.number l.fields) ≡ l.fn.out.items ++ growth_lines l.bytes 0 l.fields
