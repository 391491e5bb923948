use Rattle.std.proofs.Common.{◌∙◌, [], sym, subst, List, take, append-nil, arith}
use Rattle.std.specs.Prelude.{slice_index_or}
use Rattle.std.proofs.lemmas.List.{take_more, get_or-take, length-take-le}
use Rattle.std.proofs.lemmas.Result.{err_from_is_err_and}
use Rattle.ipc_model.specs.declared.value.Value.{Value}
use Rattle.job_print.specs.Forms.{HasLine, HaveLines, line_of}
use Rattle.job_print.specs.declared.line_buffer.PrintFault.TheVariants.{OutOfMemory}
use Rattle.job_print.proofs.Cells.{nothing_has, no_lines}
use Rattle.job_print.proofs.Lines.{put_at, not_at, rows_next, rows_cut}
use Rattle.job_print.proofs.Puts.{puts_kept, puts_never, puts_none, puts_then, puts_not_then}
use Rattle.job_print.proofs.Shown.{all_more}
use Rattle.job_print.proofs.batch_text.print_batch_rows.Goals as goal

pub returns-then-prints_no_rows : goal.returns-then-prints_no_rows
returns-then-prints_no_rows g c =
    let rows = take c.args.count c.args.batch.now.rows in
    rw (c.prints_no_rows.ensures c.if-prints_no_rows.true) (
      nothing_has c.args.fields.now rows,
      put_at _ _ _ _ (sym (no_lines c.args.fields.now rows)) (puts_none _),
    )

pub put_line-requires-clause-row : goal.put_line-requires-clause-row
put_line-requires-clause-row g c = rw c.deref.ensures.value (c.in_ok-columns.ensures.same.have c.loop-row.row (omega arith))

pub returns-in_err-columns : goal.returns-in_err-columns
returns-in_err-columns g c =
    let p = err_from_is_err_and c.from_residual.result c.from_residual.ensures.1 in
    rw (p.1, p.2) (puts_never _ _)

pub returns-in_err-put_line : goal.returns-in_err-put_line
returns-in_err-put_line g c =
    let size = length-take-le c.args.count c.args.batch.now.rows c.requires.count in
    let p = err_from_is_err_and c.from_residual-in_err-put_line.result c.from_residual-in_err-put_line.ensures.1 in
    rw (p.1, p.2) (rows_cut (line_of c.args.form c.args.fields.now) (take c.args.count c.args.batch.now.rows) _ _ _ _ c.loop-row.row
    OutOfMemory (omega (arith, size)) c.loop-row.invariant.put (puts_never _ _))

pub returns-in_err-send_full-in-None : goal.returns-in_err-send_full-in-None
returns-in_err-send_full-in-None g c =
    let size = length-take-le c.args.count c.args.batch.now.rows c.requires.count in
    let p = err_from_is_err_and c.from_residual-in_err-send_full-in-None.result c.from_residual-in_err-send_full-in-None.ensures.1 in
    let same = c.in_ok-columns.ensures.same.same c.loop-row.row (omega arith)
    ∙ sym (get_or-take c.args.count c.args.batch.now.rows c.loop-row.row [] (omega (arith, size))) in
    let h = rw (c.in-None.is, c.deref.ensures.value, same) at c.in_ok-put_line.ensures in
    rw (p.1, p.2) (rows_cut (line_of c.args.form c.args.fields.now) (take c.args.count c.args.batch.now.rows) _ _ _ _ c.loop-row.row _
    (omega (arith, size)) c.loop-row.invariant.put (not_at _ _ _ _ _ _ (append-nil _)
    (puts_not_then _ _ _ _ _ [] _ (puts_kept _ _ _ _ _ h.1) c.in_err-send_full-in-None.ensures)))

pub loop-row-init : goal.loop-row-init
loop-row-init g c = record { have = tt; put = puts_none _ }

pub loop-row-preserved : goal.loop-row-preserved
loop-row-preserved g c =
    let size = length-take-le c.args.count c.args.batch.now.rows c.requires.count in
    let rows = take c.args.count c.args.batch.now.rows in
    let row = slice_index_or rows c.loop-row.row [] in
    let same = c.in_ok-columns.ensures.same.same c.loop-row.row (omega arith)
    ∙ sym (get_or-take c.args.count c.args.batch.now.rows c.loop-row.row [] (omega (arith, size))) in
    let h = rw (c.in-None.is, c.deref.ensures.value, same) at c.in_ok-put_line.ensures in
    record {
      have = subst (λ (rs : List (List Value)). HaveLines c.args.form c.args.fields.now rs)
          (sym (take_more rows c.loop-row.row [] (omega (arith, size))))
          (all_more (HasLine c.args.form c.args.fields.now) (take c.loop-row.row rows) row c.loop-row.invariant.have h.0);
      put = rows_next (line_of c.args.form c.args.fields.now) rows _ _ _ c.loop-row.row (omega (arith, size)) c.loop-row.invariant.put
          (put_at _ _ _ _ (append-nil _) (puts_then _ _ _ _ [] (puts_kept _ _ _ _ _ h.1) c.in_ok-send_full-in-None.ensures));
    }

pub returns-in-Some : goal.returns-in-Some
returns-in-Some g c =
    let size = length-take-le c.args.count c.args.batch.now.rows c.requires.count in
    let same = c.in_ok-columns.ensures.same.same c.loop-row.row (omega arith)
    ∙ sym (get_or-take c.args.count c.args.batch.now.rows c.loop-row.row [] (omega (arith, size))) in
    let h = rw (c.in-Some.is, c.deref.ensures.value, same) at c.in_ok-put_line.ensures in
    rw h.1 (
      c.loop-row.row,
      record { inside = omega (arith, size); before = c.loop-row.invariant.have; lacks = h.0 },
      c.loop-row.invariant.put,
    )
