use Rattle.std.proofs.Common.{◌∙◌, refl, sym, ap, subst, ◌+◌, ◌<◌, ◌≤◌, length, arith}
use Rattle.std.proofs.lemmas.Option.{slice_get_read}
use Rattle.std.proofs.lemmas.Result.{err_from_is_err_and}
use Rattle.ipc_dict.specs.Noting.{note_all, IsIndexOverflow}
use Rattle.ipc_dict.specs.declared.entry.TallyEntry.{TallyEntry}
use Rattle.std.proofs.Common.{List}
use Rattle.ipc_dict.proofs.ColumnNotes.{column_first, from_first, from_last, pairs_from}
use Rattle.ipc_dict.proofs.Notes.{all_grow_trans, full-note_all}
use Rattle.ipc_dict.proofs.column_notes.note_columns.Goals as goal

pub loop-column-preserved : goal.loop-column-preserved
loop-column-preserved c =
    let inv = c.loop-column.invariant in
    let fs = c.args.fields.now in
    let rows = c.args.batch.now.rows in
    let i = c.loop-column.column in
    let f = c.index-fields-column.result in
    let inside : i < length fs = omega (arith, c.loop-column-test.true, c.columns-width.ensures.count, c.requires.columns) in
    let at = slice_get_read fs (length fs) i f refl inside c.index-fields-column.is in
    record {
      noted = ap (λ (t : List TallyEntry). note_all t (pairs_from fs (i + 1) rows)) c.in_ok-note_field.ensures.noted
          ∙ (column_first c.loop-column.entries fs i c.columns-width.result f rows inside c.loop-column-test.true c.index-fields-column.is
          c.columns-width.ensures.rows (c.requires.apart i f at) ∙ inv.noted);
      fits = λ h. c.in_ok-note_field.ensures.fits (inv.fits h);
      grows = all_grow_trans _ _ _ inv.grows c.in_ok-note_field.ensures.grows;
    }

pub returns-clause-noted : goal.returns-clause-noted
returns-clause-noted c =
    let inv = c.loop-column.invariant in
    let fs = c.args.fields.now in
    let rows = c.args.batch.now.rows in
    let past : length fs ≤ c.loop-column.column = omega (
      arith,
      c.loop-column-test.false,
      c.columns-width.ensures.count,
      c.requires.columns,
    ) in
    ap (note_all c.loop-column.entries) (sym (from_last fs c.loop-column.column rows past))
    ∙ (inv.noted ∙ ap (note_all c.args.entries.now) (from_first fs rows))

pub returns-in_err-note_field-clause-full : goal.returns-in_err-note_field-clause-full
returns-in_err-note_field-clause-full c =
    let inv = c.loop-column.invariant in
    let fs = c.args.fields.now in
    let rows = c.args.batch.now.rows in
    let i = c.loop-column.column in
    let f = c.index-fields-column.result in
    let inside : i < length fs = omega (arith, c.loop-column-test.true, c.columns-width.ensures.count, c.requires.columns) in
    let at = slice_get_read fs (length fs) i f refl inside c.index-fields-column.is in
    let first = column_first c.loop-column.entries fs i c.columns-width.result f rows inside c.loop-column-test.true
    c.index-fields-column.is c.columns-width.ensures.rows (c.requires.apart i f at) in
    let p = err_from_is_err_and c.from_residual.result c.from_residual.ensures.1 in
    rw (p.1, p.2) (λ same.
    subst IsIndexOverflow (first ∙ (inv.noted ∙ ap (note_all c.args.entries.now) (from_first fs rows)))
    (full-note_all _ (pairs_from fs (i + 1) rows) (c.in_err-note_field.ensures.full same)))
