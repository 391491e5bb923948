use Rattle.std.proofs.lemmas.Result.{err_from_is_err_and}
use Rattle.job_explain.proofs.Alone.{ill_formed_alone, not_read, only_pushed, well_formed_alone}
use Rattle.job_explain.proofs.field_paths.check_alone.Goals as goal

pub returns-in_err-field : goal.returns-in_err-field
returns-in_err-field c =
    let p = err_from_is_err_and c.from_residual.result c.from_residual.ensures.1 in
    rw (p.1, p.2) (not_read c.args.limits.now c.args.table.now _ c.in_err-field.ensures)

pub returns-in_err-check : goal.returns-in_err-check
returns-in_err-check c =
    let p = err_from_is_err_and c.from_residual-in_err-check.result c.from_residual-in_err-check.ensures.1 in
    let alone = only_pushed _ _ _ c.new.result c.new-fields.ensures.items c.in_ok-push.ensures.items c.new.ensures in
    rw (p.1, p.2) (ill_formed_alone c.args.limits.now c.args.table.now _ _ _ c.in_ok-field.ensures alone c.in_err-check.ensures.first)

pub returns : goal.returns
returns c =
    let alone = only_pushed _ _ _ c.new.result c.new-fields.ensures.items c.in_ok-push.ensures.items c.new.ensures in
    well_formed_alone c.args.limits.now c.args.table.now _ _ c.in_ok-field.ensures alone c.in_ok-check.ensures.ok
