use Rattle.std.proofs.Common.{◌∙◌, sym, ap, arith}
use Rattle.std.proofs.lemmas.Result.{err_from_is_err_and}
use Rattle.std.proofs.lemmas.Bool.{and_left}
use Rattle.ipc_column.specs.Columns.{every}
use Rattle.ipc_column.specs.checks.Checks.{passes}
use Rattle.ipc_column.specs.Views.{part_columns, column_of, children_of}
use Rattle.ipc_column.proofs.Parts.{children_out, every_from, then_judges}
use Rattle.ipc_column.proofs.validate.+check_each_column.Goals as goal

pub check_column-returns : goal.check_column-returns
check_column-returns t c =
    let children = ap (part_columns c.args.body.now) c.deref.ensures.value ∙ sym (children_out c.args.body.now c.args.part.now) in
    then_judges (λ why. passes why (column_of c.args.body.now c.args.part.now) (children_of c.args.body.now c.args.part.now))
    (λ why. every (passes why) (children_of c.args.body.now c.args.part.now)) c.check_each_column.result
    c.in_ok-check_buffers.ensures (rw children at c.check_each_column.ensures)

pub check_each_column-returns-in_err-check_column : goal.check_each_column-returns-in_err-check_column
check_each_column-returns-in_err-check_column t c =
    let d = c.in_err-check_column.field-0.0 in
    let p = err_from_is_err_and c.from_residual.result c.from_residual.ensures.1 in
    let e = every_from (passes d) c.args.body.now c.args.parts.now c.loop-part.part-index c.part-item.result (omega arith) c.part-item.is in
    rw (p.1, p.2) (sym (c.loop-part.invariant d) ∙ (e ∙ and_left _ _ c.in_err-check_column.ensures))
