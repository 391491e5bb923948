use Rattle.std.proofs.Common.{subst, []}
use Rattle.std.proofs.lemmas.Result.{IfErr-weaker, err_from_is_err_and}
use Rattle.ipc_model.proofs.Depths.{short_paths}
use Rattle.ipc_dict.specs.Noting.{AllFit}
use Rattle.ipc_dict.specs.Within.{AllWithin}
use Rattle.ipc_stream.specs.PendingBatches.{with_rows}
use Rattle.ipc_stream.proofs.ColumnRefusals.{if_three, refused_three, rows_refused, rows_unsent, values_refused, values_unsent}
use Rattle.ipc_stream.proofs.column_messages.plan_columns.Goals as goal

pub check_rows-requires : goal.check_rows-requires
check_rows-requires c = short_paths {limits = c.args.limits.now} c.args.schema.now c.requires.well_formed

pub returns-in_err-check_rows-clause-refused : goal.returns-in_err-check_rows-clause-refused
returns-in_err-check_rows-clause-refused c = λ pairs.
    let p = err_from_is_err_and c.from_residual-in_err-check_rows.result c.from_residual-in_err-check_rows.ensures.1 in
    rw (p.1, p.2) (rows_refused c.args.limits.now c.args.schema.now (with_rows pairs c.args.batch.now.rows) _
    c.in_err-check_rows.ensures.misfit)

pub returns-in_err-check_rows-clause-only : goal.returns-in_err-check_rows-clause-only
returns-in_err-check_rows-clause-only c =
    let p = err_from_is_err_and c.from_residual-in_err-check_rows.result c.from_residual-in_err-check_rows.ensures.1 in
    rw (p.1, p.2) (rows_unsent c.args.limits.now c.args.schema.now (with_rows [] c.args.batch.now.rows) _
    c.in_err-check_rows.ensures.misfit)

pub returns-clause-within : goal.returns-clause-within
returns-clause-within c =
    if_three c.for_columns.result c.for_columns.ensures.tallied c.for_columns.ensures.fits c.for_columns.ensures.within
    (λ plan is few lengths. record {
      counted = subst AllFit is few;
      lengths = subst (AllWithin c.args.limits.now c.args.schema.now.fields) is lengths;
      short_messages = c.in_ok-has_short_messages.ensures.short c.if-not-branch.false;
    })

pub returns-clause-refused : goal.returns-clause-refused
returns-clause-refused c = λ pairs.
    refused_three c.for_columns.result c.for_columns.ensures.full c.for_columns.ensures.over c.for_columns.ensures.only
    (λ fault full over only. values_refused c.args.limits.now c.args.schema.now (with_rows pairs c.args.batch.now.rows) fault full over
    only)

pub returns-clause-only : goal.returns-clause-only
returns-clause-only c =
    IfErr-weaker c.for_columns.result _ _
    (λ fault only. values_unsent c.args.limits.now c.args.schema.now (with_rows [] c.args.batch.now.rows) fault only)
    c.for_columns.ensures.only
