use Rattle.std.proofs.Common.{map, take}
use Rattle.std.specs.List.{AllByRecursion}
use Rattle.serde_json.specs.View.{view}
use Rattle.ipc_text_json.specs.SchemaErrors.{IsField}
use Rattle.ipc_text_json.proofs.schema_errors.first_bad.Given as goal

abbrev pub invariant-loop-number : goal.invariant-loop-number
invariant-loop-number l = AllByRecursion IsField (take l.number (map view l.entries))
