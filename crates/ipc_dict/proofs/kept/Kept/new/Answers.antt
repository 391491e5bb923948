use Rattle.std.proofs.Common.{◌∙◌, sym, ap, subst, List}
use Rattle.ipc_model.specs.declared.schema.Field.{Field}
use Rattle.ipc_dict.specs.declared.entry.TallyEntry.{TallyEntry}
use Rattle.ipc_dict.specs.SchemaIds.{ids_of, tally_ids, nothing_sent}
use Rattle.ipc_dict.specs.Sending.{AreCounted}
use Rattle.ipc_dict.proofs.Sending.{none_counted}
use Rattle.ipc_dict.proofs.kept.Kept.new.Goals as goal

pub returns-clause-counted : goal.returns-clause-counted
returns-clause-counted c =
    let seen = c.deref.ensures.value ∙ c.in_ok-entries.ensures in
    let fields = ap (λ (fs : List Field). nothing_sent (ids_of fs)) c.as_slice.ensures in
    subst (AreCounted c.args.schema.now.fields)
    (sym (c.in_ok-entries-2.ensures ∙ ap (λ (es : List TallyEntry). nothing_sent (tally_ids es)) seen ∙ fields))
    (none_counted c.args.schema.now.fields)
