use Rattle.std.proofs.Common.{◌≡◌, ◌∙◌, sym, ap, subst, List, Some, None, w64}
use Rattle.std.specs.Prelude.{IfOk}
use Rattle.std.specs.Ordering.{int_cmp}
use Rattle.std.specs.BTreeMap.{is_at}
use Rattle.std.proofs.lemmas.Int.{to_z-of_z}
use Rattle.ipc_model.specs.declared.value.Value.{Value}
use Rattle.ipc_column.specs.DictionaryBatches.{IsDictionary, dictionary_values}
use Rattle.ipc_column.proofs.Alone.{entry_found, values_found}
use Rattle.ipc_column.proofs.assign.values_for.Goals as goal

pub dictionary_values-requires : goal.dictionary_values-requires
dictionary_values-requires c =
    subst IsDictionary (sym c.deref.ensures)
    (entry_found (λ r. IsDictionary r.value) (is_at (int_cmp _)) c.args.dictionaries.now.entries c.in-Some.batch.now c.requires
    c.in-Some.ensures.value)

pub returns-in-Some : goal.returns-in-Some
returns-in-Some c =
    subst (λ (vs : List Value). IfOk c.dictionary_values.result (λ values. values ≡ vs))
    (ap dictionary_values c.deref.ensures
    ∙ values_found c.args.dictionaries.now c.args.id _ (Some c.in-Some.batch.now) (to_z-of_z w64 c.args.id c.ranges.id)
    c.in-Some.ensures.value)
    c.dictionary_values.ensures

pub returns-in-None : goal.returns-in-None
returns-in-None c =
    c.none.ensures
    ∙ values_found c.args.dictionaries.now c.args.id _ None (to_z-of_z w64 c.args.id c.ranges.id) c.in-None.ensures.value
