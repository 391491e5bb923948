use Rattle.std.proofs.Common.{◌∙◌, inl, inr, sym, subst, List}
use Rattle.std.proofs.lemmas.Result.{err_from_is_err_and}
use Rattle.ipc_encode.specs.Faults.{write_fault}
use Rattle.ipc_dict.specs.declared.entry.TallyEntry.{TallyEntry}
use Rattle.ipc_dict.specs.EntryColumns.{AreEntriesCounted}
use Rattle.ipc_dict.specs.Within.{IsOverLimit}
use Rattle.ipc_dict.proofs.Notes.{grown_by_none}
use Rattle.ipc_dict.proofs.Refusals.{limits_not_full}
use Rattle.ipc_dict.proofs.EntryColumns.{counts_before, many_columns, says_limits, up_to_marks}
use Rattle.ipc_dict.proofs.tally.note_and_count.Goals as goal

pub count-requires-clause-columns : goal.count-requires-clause-columns
count-requires-clause-columns c =
    many_columns c.args.fields.now c.args.entries.now c.note_each.new.entries c.args.columns.now c.note_each.ensures.grows
    c.requires.columns

pub count-requires-clause-room : goal.count-requires-clause-room
count-requires-clause-room c =
    c.requires.columns.room
    ∙ many_columns c.args.fields.now c.args.entries.now c.note_each.new.entries c.args.columns.now c.note_each.ensures.grows
    c.requires.columns

pub returns-in_err-count-clause-full : goal.returns-in_err-count-clause-full
returns-in_err-count-clause-full c =
    let limits = c.args.columns.now.limits in
    let fault = write_fault c.in_err-count.field-0.0 in
    let old = up_to_marks c.args.fields.now c.args.marks.now c.args.entries.now c.note_each.new.entries c.args.columns.now
    c.requires.marks c.note_each.ensures.grows c.requires.columns in
    let report = c.in_err-count.ensures.refused c.args.fields.now old in
    let p = err_from_is_err_and c.from_residual-in_err-count.result c.from_residual-in_err-count.ensures.1 in
    rw (p.1, p.2) (λ full.
    absurd (limits_not_full fault (says_limits limits c.args.fields.now c.note_each.new.entries fault report) full))

pub returns-in_err-count-clause-over : goal.returns-in_err-count-clause-over
returns-in_err-count-clause-over c =
    let limits = c.args.columns.now.limits in
    let fault = write_fault c.in_err-count.field-0.0 in
    let old = up_to_marks c.args.fields.now c.args.marks.now c.args.entries.now c.note_each.new.entries c.args.columns.now
    c.requires.marks c.note_each.ensures.grows c.requires.columns in
    let report = c.in_err-count.ensures.refused c.args.fields.now old in
    let p = err_from_is_err_and c.from_residual-in_err-count.result c.from_residual-in_err-count.ensures.1 in
    rw (p.1, p.2) (λ one.
    subst (λ (es : List TallyEntry). IsOverLimit limits c.args.fields.now es fault) c.in_ok-note_each.ensures.noted report)

pub returns-in_err-count-clause-memory : goal.returns-in_err-count-clause-memory
returns-in_err-count-clause-memory c =
    let limits = c.args.columns.now.limits in
    let fault = write_fault c.in_err-count.field-0.0 in
    let old = up_to_marks c.args.fields.now c.args.marks.now c.args.entries.now c.note_each.new.entries c.args.columns.now
    c.requires.marks c.note_each.ensures.grows c.requires.columns in
    let report = c.in_err-count.ensures.refused c.args.fields.now old in
    let p = err_from_is_err_and c.from_residual-in_err-count.result c.from_residual-in_err-count.ensures.1 in
    rw (p.1, p.2) (inl (inr (says_limits limits c.args.fields.now c.note_each.new.entries fault report)))

pub returns-in_ok-count-clause-counted : goal.returns-in_ok-count-clause-counted
returns-in_ok-count-clause-counted c =
    let old = up_to_marks c.args.fields.now c.args.marks.now c.args.entries.now c.note_each.new.entries c.args.columns.now
    c.requires.marks c.note_each.ensures.grows c.requires.columns in
    c.in_ok-count.ensures.counted c.args.fields.now old

pub returns-in_ok-count-clause-can_be_cut : goal.returns-in_ok-count-clause-can_be_cut
returns-in_ok-count-clause-can_be_cut c =
    let old = up_to_marks c.args.fields.now c.args.marks.now c.args.entries.now c.note_each.new.entries c.args.columns.now
    c.requires.marks c.note_each.ensures.grows c.requires.columns in
    inr (counts_before c.args.fields.now _ c.args.columns.now c.count.new.self c.count.ensures.limits c.in_ok-count.ensures.before old)

pub returns-else-have_new_values-clause-can_be_cut : goal.returns-else-have_new_values-clause-can_be_cut
returns-else-have_new_values-clause-can_be_cut c = inl (c.have_new_values.ensures.none c.if-have_new_values.false)

pub returns-else-have_new_values-clause-counted : goal.returns-else-have_new_values-clause-counted
returns-else-have_new_values-clause-counted c =
    let same = grown_by_none c.args.entries.now c.note_each.new.entries c.note_each.ensures.grows
    (c.have_new_values.ensures.none c.if-have_new_values.false ∙ c.requires.marks) in
    subst (λ (es : List TallyEntry). AreEntriesCounted c.args.fields.now es c.args.columns.now) (sym same) c.requires.columns
