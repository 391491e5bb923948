use Rattle.std.proofs.Common.{rules, ap, arith, List}
use Rattle.std.proofs.lemmas.Result.{err_from_is_err_and}
use Rattle.std.specs.Prelude.{slice_index_or}
use Rattle.ipc_model.specs.declared.value.Value.{Value}
use Rattle.ipc_model.specs.declared.value.Value.TheVariants as v
use Rattle.job_print.proofs.Cells.{first_appended, refused_front, still_before}
use Rattle.job_print.proofs.csv_row.put_cells.Goals as goal

pub loop-fields-preserved : goal.loop-fields-preserved
loop-fields-preserved c =
    let k = c.loop-fields in
    let comma = rw (c.delimiter.ensures, c.reserve.ensures.text) at c.put_delimiter.ensures.text in
    let h = first_appended c.args.dialect.now k.fields.now k.columns.now c.args.row c.field-item.result c.column-item.result _ k.number _ _
    _ _ (search rules) (search rules) k.invariant.columns k.invariant.row c.field-item.is c.column-item.is
    (ap (λ (vs : List Value). slice_index_or vs c.args.row v.Null) c.tree.ensures) k.invariant.text comma c.in_ok-put_cell.ensures in
    let left = h.left in
    let number = k.invariant.number in
    record {
      columns = h.columns;
      row = h.row;
      number = omega (arith, left, number);
      before = still_before c.args.dialect.now _ _ _ _ _ _ k.invariant.before comma c.in_ok-put_cell.ensures;
      text = h.text;
    }

pub returns-in_err-put_cell-clause-front : goal.returns-in_err-put_cell-clause-front
returns-in_err-put_cell-clause-front c =
    let p = err_from_is_err_and c.from_residual-in_err-put_cell.result c.from_residual-in_err-put_cell.ensures.1 in
    let comma = rw (c.delimiter.ensures, c.reserve.ensures.text) at c.put_delimiter.ensures.text in
    rw (p.1, p.2) (λ other. refused_front _ _ _ _ _ c.loop-fields.invariant.before comma (c.in_err-put_cell.ensures.1 other))
