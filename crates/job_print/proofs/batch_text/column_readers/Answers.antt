use Rattle.std.proofs.Common.{◌≡◌, ℕ, List, length, subst, arith}
use Rattle.std.specs.List.{AllByRecursion}
use Rattle.ipc_model.specs.declared.value.Value.{Value}
use Rattle.job_print.proofs.LentRows.{columns_found}
use Rattle.job_print.proofs.batch_text.column_readers.Goals as goal

pub returns-clause-same : goal.returns-clause-same
returns-clause-same c =
    let rows = c.args.batch.now.rows in
    let count = c.loop-number.invariant.count in
    let all : c.columns-number-end.result ≡ length c.loop-number.columns.items =
    omega (arith, count, c.loop-number-test.false, c.loop-number.auto.number-end) in
    columns_found rows c.loop-number.columns.items
    (subst (λ (n : ℕ). AllByRecursion (λ (row : List Value). length row ≡ n) rows) all c.columns-number-end.ensures.rows)
    c.loop-number.invariant.each
