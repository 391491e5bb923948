use Rattle.std.proofs.Common.{◌≡◌, ◌∙◌, sym, ap, subst, List, Some, ℤ, w64, of_z, to_z}
use Rattle.std.specs.List.{AllByRecursion}
use Rattle.std.proofs.lemmas.Int.{to_z-of_z}
use Rattle.ipc_model.specs.Entries.{entries}
use Rattle.ipc_model.specs.Fits.{RowFits}
use Rattle.ipc_model.specs.WellFormed.{IsFieldWellFormed}
use Rattle.ipc_model.specs.declared.schema.Field.{Field}
use Rattle.ipc_model.specs.declared.value.Value.{Value}
use Rattle.ipc_encode.specs.Limits.{IsWithin}
use Rattle.ipc_dict_read.specs.ValuesColumns.{IsOneColumn, columns_for, dictionary_columns}
use Rattle.ipc_stream.proofs.BatchSent.{sent_as}
use Rattle.ipc_stream.specs.Messages.{SetsDictionary}
use Rattle.ipc_stream.proofs.batch_messages.add_dictionary.Goals as goal

pub returns-clause-set : goal.returns-clause-set
returns-clause-set c = λ s is can.
    let limits = c.args.limits.now in
    let send = c.args.send.now in
    let id : to_z w64 (of_z w64 c.id_of-id.result) ≡ send.0 =
    to_z-of_z w64 c.id_of-id.result c.id_of-id.ensures.fits ∙ c.id_of-id.ensures.is in
    let named : columns_for (dictionary_columns s.fields) send.0 ≡ Some c.in-Some.fields.now =
    ap (λ cs. columns_for cs send.0) (sym is) ∙ ap (columns_for c.args.columns.now.columns) (sym id) ∙ sym c.in-Some.ensures in
    let same = sent_as limits s send can c.in-Some.fields.now named in
    let slice : c.as_slice.result.now ≡ can.columns = c.as_slice.ensures ∙ same in
    let rows = c.as_slice-2.ensures in
    let fit = subst (λ (cs : List Field). AllByRecursion (RowFits cs) send.1) (sym slice) can.fit in
    let within = subst (λ (cs : List Field). IsWithin limits cs send.1) (sym slice) can.within in
    let report = c.in_ok-message.ensures.sets s
    (ap (columns_for (dictionary_columns s.fields)) id ∙ named ∙ ap (λ cs. Some cs) (sym c.as_slice.ensures))
    (subst (λ (cs : List Field). AllByRecursion (IsFieldWellFormed limits) (entries cs)) (sym slice) can.fine)
    (subst (λ (rs : List (List Value)). AllByRecursion (RowFits c.as_slice.result.now) rs) (sym rows) fit)
    (subst IsOneColumn (sym slice) can.one)
    (subst (λ (rs : List (List Value)). IsWithin limits c.as_slice.result.now rs) (sym rows) within) in (
      c.in_ok-message.message,
      (
        c.in_ok-push.ensures.items,
        subst (λ (rs : List (List Value)). SetsDictionary limits s send.0 rs c.in_ok-message.message) rows
            (subst (λ (z : ℤ). SetsDictionary limits s z c.as_slice-2.result.now c.in_ok-message.message) id report),
      ),
    )
