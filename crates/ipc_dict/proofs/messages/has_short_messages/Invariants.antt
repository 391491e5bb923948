use Rattle.std.proofs.Common.{take}
use Rattle.ipc_dict.specs.SchemaIds.{empty_entries}
use Rattle.ipc_dict.specs.Within.{AllShort}
use Rattle.ipc_dict.proofs.messages.has_short_messages.Given as goal

abbrev pub invariant-loop-entry : goal.invariant-loop-entry
invariant-loop-entry l = AllShort l.limits l.schema.fields (take l.entry-index (empty_entries l.schema.fields))
