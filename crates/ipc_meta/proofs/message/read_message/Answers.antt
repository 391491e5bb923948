use Rattle.std.proofs.Common.{◌∙◌, sym, ap, pos}
use Rattle.std.proofs.lemmas.Bool.{lt-ltb}
use Rattle.std.proofs.lemmas.Result.{err_from_is_err_and}
use Rattle.ipc_meta.specs.FlatFaults.{map_fault}
use Rattle.ipc_meta.specs.Reached.{of_root, no_root}
use Rattle.ipc_meta.proofs.refused.Refused.{illegible}
use Rattle.ipc_meta.proofs.Texts.{no_table_from}
use Rattle.ipc_meta.proofs.message.read_message.Goals as goal
use Rattle.ipc_meta.proofs.Binds.{lift_ok}

pub returns-in_err-root-clause-refused : goal.returns-in_err-root-clause-refused
returns-in_err-root-clause-refused c =
    let p = err_from_is_err_and c.from_residual.result c.from_residual.ensures.1 in
    rw (p.1, p.2) (λ ne. illegible c.args.limits.now _ _ _ (ap map_fault (sym c.root.ensures) ∙ sym c.in_err-root.ensures)
    (λ i. absurd (no_table_from _ 0 i)) no_root)

pub returns-in_err-head-clause-refused : goal.returns-in_err-head-clause-refused
returns-in_err-head-clause-refused c =
    let p = err_from_is_err_and c.from_residual-in_err-head.result c.from_residual-in_err-head.ensures.1 in
    let root = of_root (lift_ok _ _ (ap map_fault (sym c.root.ensures) ∙ sym c.in_ok-root.ensures)) in
    rw (p.1, p.2) (c.in_err-head.ensures.refused _ root)

pub returns-in_err-check_version-clause-refused : goal.returns-in_err-check_version-clause-refused
returns-in_err-check_version-clause-refused c =
    let p = err_from_is_err_and c.from_residual-in_err-check_version.result c.from_residual-in_err-check_version.ensures.1 in
    let root = of_root (lift_ok _ _ (ap map_fault (sym c.root.ensures) ∙ sym c.in_ok-root.ensures)) in
    rw (p.1, p.2) (λ ne. c.in_err-check_version.ensures.refused c.args.limits.now _ root)

pub returns-in_err-body-clause-refused : goal.returns-in_err-body-clause-refused
returns-in_err-body-clause-refused c =
    let p = err_from_is_err_and c.from_residual-in_err-body.result c.from_residual-in_err-body.ensures.1 in
    let root = of_root (lift_ok _ _ (ap map_fault (sym c.root.ensures) ∙ sym c.in_ok-root.ensures)) in
    rw (p.1, p.2) (λ ne. c.in_err-body.ensures.refused c.args.limits.now _ root)

pub returns-in_err-check_body_length-clause-refused : goal.returns-in_err-check_body_length-clause-refused
returns-in_err-check_body_length-clause-refused c =
    let p = err_from_is_err_and c.from_residual-in_err-check_body_length.result c.from_residual-in_err-check_body_length.ensures.1 in
    let long = c.in_err-check_body_length.ensures.refused in
    let root = of_root (lift_ok _ _ (ap map_fault (sym c.root.ensures) ∙ sym c.in_ok-root.ensures)) in
    rw (p.1, p.2, long.0) (λ ne. (
      _,
      root,
      (pos c.in_ok-body.body, c.in_ok-body.ensures.finds, lt-ltb c.args.limits.now.body c.in_ok-body.body long.1),
    ))
