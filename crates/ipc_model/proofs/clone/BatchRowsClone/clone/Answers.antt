use Rattle.std.proofs.Common.{◌≡◌}
use Rattle.ipc_model.proofs.clone.BatchRowsClone.clone.Goals as goal

-- a copy of lists equals its source, since each value's copy does, and each text's
pub returns : goal.returns
returns c =
    let pairs : c.in_ok-clone.field-0 ≡ c.args.self.now.pairs =
    c.in_ok-clone.ensures.cases.1 (λ p q same i. (same.0 i, same.1 i)) in
    let rows : c.in_ok-clone-2.field-0 ≡ c.args.self.now.rows =
    c.in_ok-clone-2.ensures.cases.1 (λ a b row. row.1 (λ v w same. same)) in
    record { cases = rw (pairs, rows) }
