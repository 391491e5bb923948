use Rattle.std.proofs.Common.{◌∙◌, subst, inr, length, ◌<◌, arith, List}
use Rattle.std.specs.List.{AllByRecursion}
use Rattle.std.proofs.lemmas.List.{take_all}
use Rattle.std.proofs.lemmas.Result.{err_from_is_err_and}
use Rattle.ipc_model.specs.Fits.{RowFits}
use Rattle.ipc_model.specs.declared.schema.Field.{Field}
use Rattle.ipc_conform.proofs.FittingColumns.{first_more}
use Rattle.ipc_conform.proofs.conforming.check_rows.Goals as goal

pub returns-then-columns_fit-clause-fit : goal.returns-then-columns_fit-clause-fit
returns-then-columns_fit-clause-fit c =
    subst (λ (fields : List Field). AllByRecursion (RowFits fields) c.args.batch.now.rows) c.as_slice.ensures
    (c.columns_fit.ensures c.if-columns_fit.true)

pub check_row-requires : goal.check_row-requires
check_row-requires c = c.requires

pub loop-number-preserved : goal.loop-number-preserved
loop-number-preserved c =
    let rows = c.args.batch.now.rows in
    let i = c.loop-number.number in
    let inside : i < length rows = omega (arith, c.loop-number-test.true, c.rows-number-end.ensures) in
    let is = c.as_slice-in-loop-number.ensures.value ∙ c.in-Ok.ensures.values in
    first_more c.args.schema.now.fields rows i c.as_slice-in-loop-number.result.now inside is c.loop-number.invariant
    c.in_ok-check_row.ensures.fit

pub returns-in_err-check_row-clause-misfit : goal.returns-in_err-check_row-clause-misfit
returns-in_err-check_row-clause-misfit c =
    let rows = c.args.batch.now.rows in
    let i = c.loop-number.number in
    let inside : i < length rows = omega (arith, c.loop-number-test.true, c.rows-number-end.ensures) in
    let is = c.as_slice-in-loop-number.ensures.value ∙ c.in-Ok.ensures.values in
    let p = err_from_is_err_and c.from_residual.result c.from_residual.ensures.1 in
    rw (p.1, p.2) (inr (c.in_err-check_row.ensures.misfit rows inside is c.loop-number.invariant))

pub returns-clause-fit : goal.returns-clause-fit
returns-clause-fit c =
    let rows = c.args.batch.now.rows in
    subst (AllByRecursion (RowFits c.args.schema.now.fields))
    (take_all c.loop-number.number rows (omega (arith, c.loop-number-test.false, c.rows-number-end.ensures)))
    c.loop-number.invariant
