use Rattle.std.proofs.Common.{◌≡◌, ◌++◌, drop}
use Rattle.job_explain.specs.Writes.{dictionary_lines}
use Rattle.job_explain.proofs.writes.list_dictionaries.Given as goal

abbrev pub invariant-loop-number : goal.invariant-loop-number
invariant-loop-number l = l.out.items ++ dictionary_lines l.number (drop l.number l.fields) ≡ l.fn.out.items ++ dictionary_lines 0 l.fields
