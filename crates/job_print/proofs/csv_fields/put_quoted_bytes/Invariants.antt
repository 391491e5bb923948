use Rattle.std.proofs.Common.{◌≡◌, ◌++◌, drop}
use Rattle.csv.specs.Writing.{default_writer, escaped}
use Rattle.job_print.proofs.csv_fields.put_quoted_bytes.Given as goal

-- the first bytes were written
abbrev pub invariant-loop-byte : goal.invariant-loop-byte
invariant-loop-byte l = record {
  text : l.out.text ++ escaped default_writer (drop l.byte-index l.field) ≡ l.fn.out.text ++ escaped default_writer l.field;
}
