use Rattle.std.proofs.Common.{◌≡◌, ◌∙◌, refl, sym, ap, ◌+◌, ◌<◌, ◌≤◌, [], length, drop, get_or, arith}
use Rattle.std.proofs.lemmas.List.{get_or_default}
use Rattle.std.proofs.lemmas.Result.{err_from_is_err_and}
use Rattle.ipc_dict.specs.Noting.{note_all}
use Rattle.ipc_dict.specs.Pairs.{row_pairs, rows_pairs}
use Rattle.ipc_dict.proofs.Notes.{all_grow_same, all_grow_trans}
use Rattle.ipc_dict.proofs.Rows.{rows-end, rows-step}
use Rattle.ipc_dict.proofs.Walks.{full-step, noted-step}
use Rattle.ipc_dict.proofs.column_notes.note_rows.Goals as goal

pub loop-number-init : goal.loop-number-init
loop-number-init c = record {
  noted = refl;
  fits = λ h. h;
  grows = all_grow_same c.args.entries.now;
}

pub loop-number-preserved : goal.loop-number-preserved
loop-number-preserved c =
    let inv = c.loop-number.invariant in
    let fs = c.args.fields.now in
    let rs = c.args.batch.now.rows in
    let i = c.loop-number.number in
    let r = c.as_slice.result.now in
    let inside : i < length rs = omega (arith, c.loop-number-test.true, c.rows-number-end.ensures) in
    let is : r ≡ get_or rs i r = c.as_slice.ensures.value ∙ c.in-Ok.ensures.values ∙ get_or_default rs i [] r inside in
    record {
      noted = noted-step c.args.entries.now c.loop-number.entries c.note_each.new.entries (rows_pairs fs rs) (rows_pairs fs (drop i rs))
          (row_pairs fs r) (rows_pairs fs (drop (i + 1) rs)) inv.noted (rows-step fs rs i r inside is) c.in_ok-note_each.ensures.noted;
      fits = λ h. c.in_ok-note_each.ensures.fits (inv.fits h);
      grows = all_grow_trans _ _ _ inv.grows c.in_ok-note_each.ensures.grows;
    }

pub returns-in_err-note_each-clause-full : goal.returns-in_err-note_each-clause-full
returns-in_err-note_each-clause-full c =
    let inv = c.loop-number.invariant in
    let fs = c.args.fields.now in
    let rs = c.args.batch.now.rows in
    let i = c.loop-number.number in
    let r = c.as_slice.result.now in
    let inside : i < length rs = omega (arith, c.loop-number-test.true, c.rows-number-end.ensures) in
    let is : r ≡ get_or rs i r = c.as_slice.ensures.value ∙ c.in-Ok.ensures.values ∙ get_or_default rs i [] r inside in
    let p = err_from_is_err_and c.from_residual.result c.from_residual.ensures.1 in
    rw (p.1, p.2) (λ same.
    full-step c.args.entries.now c.loop-number.entries c.loop-number.entries (rows_pairs fs rs) (rows_pairs fs (drop i rs))
    (row_pairs fs r) (rows_pairs fs (drop (i + 1) rs)) inv.noted (rows-step fs rs i r inside is) (c.in_err-note_each.ensures.full same))

pub returns-clause-noted : goal.returns-clause-noted
returns-clause-noted c =
    let inv = c.loop-number.invariant in
    let fs = c.args.fields.now in
    let rs = c.args.batch.now.rows in
    let past : length rs ≤ c.loop-number.number = omega (arith, c.loop-number-test.false, c.rows-number-end.ensures) in
    sym (ap (note_all c.loop-number.entries) (rows-end fs rs c.loop-number.number past)) ∙ inv.noted
