use Rattle.std.proofs.Common.{◌∙◌, sym, ap, subst, List}
use Rattle.ipc_dict.specs.declared.entry.TallyEntry.{TallyEntry}
use Rattle.ipc_dict.specs.SchemaIds.{ids_of, tally_ids, empty_entries}
use Rattle.ipc_dict.specs.Sending.{AreAddressed}
use Rattle.ipc_dict.specs.TallyState.{TallyState}
use Rattle.ipc_dict.specs.Within.{AllWithin}
use Rattle.ipc_dict.proofs.pairs.CoveredIndices.{addressed, bounds_ids}
use Rattle.ipc_dict.proofs.EntryColumns.{counted_within}
use Rattle.ipc_dict.proofs.tally.Tally.settle.Goals as goal

pub returns-clause-within : goal.returns-clause-within
returns-clause-within c =
    let inside = c.self.inside in
    let all = subst (λ (t : TallyState). AllWithin t.limits t.fields t.entries) c.self.view_is
    (counted_within inside.fields inside.entries.items inside.columns c.self.invariant.counted) in
    subst (λ (es : List TallyEntry). AllWithin c.args.self.limits c.args.self.fields es)
    (sym (c.in_ok-settle.ensures.entries ∙ ap (λ (t : TallyState). t.entries) c.self.view_is)) all

pub returns-clause-ids : goal.returns-clause-ids
returns-clause-ids c =
    let inside = c.self.inside in
    ap tally_ids c.in_ok-settle.ensures.entries ∙ bounds_ids inside.entries.items (empty_entries inside.fields) c.self.invariant.bounds
    ∙ ap (λ (t : TallyState). ids_of t.fields) c.self.view_is

pub returns-clause-addressed : goal.returns-clause-addressed
returns-clause-addressed c =
    let inside = c.self.inside in
    let all = subst (λ (t : TallyState). AreAddressed t.fields t.entries) c.self.view_is
    (addressed inside.fields inside.entries.items c.self.invariant.bounds c.self.invariant.fits) in
    subst (λ (es : List TallyEntry). AreAddressed c.args.self.fields es)
    (sym (c.in_ok-settle.ensures.entries ∙ ap (λ (t : TallyState). t.entries) c.self.view_is)) all
