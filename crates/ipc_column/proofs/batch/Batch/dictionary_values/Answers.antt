use Rattle.std.proofs.Common.{sym, subst}
use Rattle.ipc_column.specs.DictionaryBatches.{IsDictionary}
use Rattle.ipc_column.proofs.Alone.{from_dictionary}
use Rattle.ipc_column.proofs.batch.Batch.dictionary_values.Goals as goal

pub share_values-requires-clause-alone : goal.share_values-requires-clause-alone
share_values-requires-clause-alone c =
    let s = c.self.inside.shared.value in
    rw (c.deref.ensures.value, c.as_ref-shared.ensures) (from_dictionary s (subst IsDictionary (sym c.self.view_is) c.requires))
