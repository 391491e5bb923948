use Rattle.std.proofs.Common.{sym, subst}
use Rattle.ipc_column.specs.DictionaryBatches.{IsDictionary}
use Rattle.ipc_column.proofs.Alone.{as_dictionary, from_dictionary}
use Rattle.ipc_column.proofs.batch.Batch.is_dictionary.Goals as goal

pub returns-clause-yes : goal.returns-clause-yes
returns-clause-yes c = λ h.
    let s = c.self.inside.shared.value in
    subst IsDictionary c.self.view_is
    (as_dictionary s (rw (c.deref.ensures.value, c.as_ref-shared.ensures) at (c.is_one_leaf.ensures.yes h s.body.value.items)))

pub returns-clause-no : goal.returns-clause-no
returns-clause-no c = λ d.
    let s = c.self.inside.shared.value in
    c.is_one_leaf.ensures.no s.body.value.items
    (rw (c.deref.ensures.value, c.as_ref-shared.ensures) (from_dictionary s (subst IsDictionary (sym c.self.view_is) d)))
