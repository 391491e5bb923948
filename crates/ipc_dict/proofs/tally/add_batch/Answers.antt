use Rattle.std.proofs.Common.{◌≡◌, ◌∙◌, ap, inl, sym, subst, List}
use Rattle.ipc_dict.specs.declared.entry.TallyEntry.{TallyEntry}
use Rattle.ipc_dict.specs.EntryColumns.{AreEntriesCounted}
use Rattle.ipc_dict.specs.Noting.{AllFit, tally_lengths, truncated_tally}
use Rattle.ipc_dict.specs.SchemaIds.{tally_bounds, tally_ids}
use Rattle.ipc_dict.proofs.Notes.{cut_all, cut_back}
use Rattle.ipc_dict.proofs.tally.add_batch.Goals as goal

back : (c : goal.After-entries-in-Err-1) → c.restore.new.entries ≡ c.args.entries.now
back c = c.restore.ensures ∙ ap (λ ms. truncated_tally ms c.count_batch.new.entries) c.mark.ensures
    ∙ cut_back c.args.entries.now c.count_batch.new.entries c.count_batch.ensures.grows

pub returns-in-Err-clause-fits : goal.returns-in-Err-clause-fits
returns-in-Err-clause-fits c = λ h. subst AllFit (sym (back c)) h

pub returns-in-Err-clause-ids : goal.returns-in-Err-clause-ids
returns-in-Err-clause-ids c = ap tally_ids (back c)

pub returns-in-Err-clause-bounds : goal.returns-in-Err-clause-bounds
returns-in-Err-clause-bounds c = ap tally_bounds (back c)

pub returns-in-Err-clause-err : goal.returns-in-Err-clause-err
returns-in-Err-clause-err c = back c

pub returns-in-Err-clause-before : goal.returns-in-Err-clause-before
returns-in-Err-clause-before c =
    (λ i. truncated_tally (c.mark.ensures i) (back c i)) ∙ cut_all c.args.entries.now

pub returns-in-Err-clause-can_be_cut : goal.returns-in-Err-clause-can_be_cut
returns-in-Err-clause-can_be_cut c = inl (ap tally_lengths (back c) ∙ sym c.mark.ensures)

pub returns-clause-before : goal.returns-clause-before
returns-clause-before c =
    ap (λ ms. truncated_tally ms c.count_batch.new.entries) c.mark.ensures
    ∙ cut_back c.args.entries.now c.count_batch.new.entries c.count_batch.ensures.grows

pub returns-in-Err-clause-counted : goal.returns-in-Err-clause-counted
returns-in-Err-clause-counted c =
    subst (λ (es : List TallyEntry). AreEntriesCounted c.args.fields.now es c.count_batch.new.columns) (sym (back c)) c.in-Err.ensures.kept
