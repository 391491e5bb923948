use Rattle.std.proofs.Common.{◌≡◌, []}
use Rattle.csv.specs.Records.{fields_of, partial_of}
use Rattle.ipc_text_csv.specs.StrictReaders.{left_of, setting, state_of}
use Rattle.ipc_text_csv.proofs.StrictSteps.{Follows}
use Rattle.ipc_text_csv.proofs.strict_reader.StrictReader.read_record.Given as goal

abbrev pub invariant-loop : goal.invariant-loop
invariant-loop g l = record {
  delimiter : l.self.delimiter ≡ l.fn.self.delimiter;
  whole : partial_of l.fields ≡ [];
  follows : Follows (setting l.fn.self.delimiter) (state_of l.fn.self.place) (left_of g.R.Read.remaining l.fn.self.bytes)
      (state_of l.self.place) (fields_of l.fields) l.self.field.items (left_of g.R.Read.remaining l.self.bytes);
}
