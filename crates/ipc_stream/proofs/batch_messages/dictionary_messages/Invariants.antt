use Rattle.std.proofs.Common.{◌≡◌, take}
use Rattle.std.specs.List.{AllByRecursion}
use Rattle.ipc_model.specs.declared.schema.Schema.{Schema}
use Rattle.ipc_dict_read.specs.ValuesColumns.{dictionary_columns}
use Rattle.ipc_stream.specs.Messages.{SetDictionaries}
use Rattle.ipc_stream.specs.OpenStreams.{CanBeSent}
use Rattle.ipc_stream.proofs.batch_messages.dictionary_messages.Given as goal

abbrev pub invariant-loop-send : goal.invariant-loop-send
invariant-loop-send l = (s : Schema) → l.columns.columns ≡ dictionary_columns s.fields → AllByRecursion (CanBeSent l.limits s) l.sends
    → SetDictionaries l.limits s (take l.send-index l.sends) l.messages.items
