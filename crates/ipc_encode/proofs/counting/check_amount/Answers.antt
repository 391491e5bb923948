use Rattle.std.proofs.Common.{◌≡◌, ◌∙◌, sym, inl, inr, arith}
use Rattle.ipc_model.specs.declared.layout.Layout.TheVariants.{Lists}
use Rattle.ipc_encode.proofs.Sizes.{content_data, data_within, items_data}
use Rattle.ipc_encode.proofs.counting.check_amount.Goals.{in_default-via-in-VariableBytes+else-amount-gt-MAX_DATA}
use Rattle.ipc_encode.proofs.counting.check_amount.Goals.{in_default-via-in_default}
use Rattle.ipc_encode.proofs.counting.check_amount.Goals as goal

pub returns-in-Lists-2-clause-refused : goal.returns-in-Lists-2-clause-refused
returns-in-Lists-2-clause-refused c = λ values amount.
    let same = rw c.in-Lists-2.is at amount in
    rw c.in-Lists-2.is (inr (omega (arith, items_data values, same, c.if-amount-le-MAX_DATA.false)))

pub returns-in-VariableBytes-clause-refused : goal.returns-in-VariableBytes-clause-refused
returns-in-VariableBytes-clause-refused c = λ values amount.
    let same = rw c.in-VariableBytes.is at amount in
    rw c.in-VariableBytes.is
    (inl (omega (arith, content_data c.in-VariableBytes.utf8 values, same, c.if-amount-gt-MAX_DATA.true)))

pub returns-in_default-clause-refused : goal.returns-in_default-clause-refused
returns-in_default-clause-refused c = λ values amount.
    let other : c.args.layout ≡ Lists → ⊥ = elim c.in_default.branch [
      | in_default-via-in-VariableBytes+else-amount-gt-MAX_DATA w ↦ λ e. let same = sym w.in-VariableBytes.is ∙ e in absurd cc
      | in_default-via-in_default w ↦ w.in_default.not-Lists
    ] in
    inr (omega (arith, data_within c.args.layout values other, amount, c.if-amount-limits.true))
