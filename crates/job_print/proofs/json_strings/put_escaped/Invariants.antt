use Rattle.std.proofs.Common.{◌≡◌, ◌++◌, drop}
use Rattle.json.specs.Print.{escape}
use Rattle.job_print.proofs.json_strings.put_escaped.Given as goal

-- the first bytes were written
abbrev pub invariant-loop-byte : goal.invariant-loop-byte
invariant-loop-byte l = record {
  text : l.out.text ++ escape (drop l.byte-index l.chars) ≡ l.fn.out.text ++ escape l.chars;
}
