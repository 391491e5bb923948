use Rattle.std.proofs.Common.{◌∙◌, sym, arith}
use Rattle.std.proofs.lemmas.Bool.{false≢true}
use Rattle.std.proofs.lemmas.Result.{err_from_is_err_and}
use Rattle.ipc_model.specs.declared.fault.Fault.TheVariants as fault
use Rattle.ipc_column.specs.Views.{part_columns}
use Rattle.ipc_column.proofs.lending.Slots.{row_slots, all_judged, shown_fails, shown_asks}
use Rattle.ipc_column.proofs.visited.Weights.{weight_most}
use Rattle.ipc_column.proofs.validate.check_columns.Goals as goal

pub check_all_values-requires-clause-slots : goal.check_all_values-requires-clause-slots
check_all_values-requires-clause-slots c =
    rw c.store_all_facts.ensures.columns
    (row_slots (part_columns c.args.body.now c.args.parts.now) c.args.rows 0 c.args.rows (omega arith) (omega arith)
    c.in_ok-check_each_column.ensures
    (c.in_ok-check_lengths.ensures fault.BadNode))

pub check_all_values-requires-clause-room : goal.check_all_values-requires-clause-room
check_all_values-requires-clause-room c =
    let most = weight_most (part_columns c.args.body.now c.args.parts.now) 0 c.args.rows
    (row_slots (part_columns c.args.body.now c.args.parts.now) c.args.rows 0 c.args.rows (omega arith) (omega arith)
    c.in_ok-check_each_column.ensures
    (c.in_ok-check_lengths.ensures fault.BadNode)) in
    rw c.store_all_facts.ensures.columns (omega (arith, most, c.requires.few))

pub returns-clause-judged : goal.returns-clause-judged
returns-clause-judged c =
    all_judged (part_columns c.args.body.now c.args.parts.now) c.args.rows c.in_ok-check_each_column.ensures c.in_ok-check_lengths.ensures
    (rw c.store_all_facts.ensures.columns at c.in_ok-check_all_values.ensures.judged)

pub returns-clause-visited : goal.returns-clause-visited
returns-clause-visited c =
    let most = weight_most (part_columns c.args.body.now c.args.parts.now) 0 c.args.rows
    (row_slots (part_columns c.args.body.now c.args.parts.now) c.args.rows 0 c.args.rows (omega arith) (omega arith)
    c.in_ok-check_each_column.ensures
    (c.in_ok-check_lengths.ensures fault.BadNode)) in
    let cost = rw c.store_all_facts.ensures.columns at c.in_ok-check_all_values.ensures.cost in
    omega (arith, most, cost)

pub returns-in_err-check_all_values-clause-judged : goal.returns-in_err-check_all_values-clause-judged
returns-in_err-check_all_values-clause-judged c =
    let d = c.in_err-check_all_values.field-0.0 in
    let p = err_from_is_err_and c.from_residual-in_err-check_all_values.result c.from_residual-in_err-check_all_values.ensures.1 in
    rw (p.1, p.2) (shown_fails d c.args.rows (part_columns c.args.body.now c.args.parts.now)
    (rw c.store_all_facts.ensures.columns at c.in_err-check_all_values.ensures.judged))

pub returns-in_err-check_each_column-clause-shown_last : goal.returns-in_err-check_each_column-clause-shown_last
returns-in_err-check_each_column-clause-shown_last c =
    let d = c.in_err-check_each_column.field-0.0 in
    let p = err_from_is_err_and c.from_residual.result c.from_residual.ensures.1 in
    rw (p.1, p.2) (λ e other. absurd (false≢true (sym c.in_err-check_each_column.ensures
    ∙ shown_asks d (part_columns c.args.body.now c.args.parts.now) e)))
