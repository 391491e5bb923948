use Rattle.std.proofs.Common.{◌≡◌, ◌∙◌, sym, ap, subst, ℕ, List, length, true}
use Rattle.ipc_column.specs.Lending.{MarksNulls}
use Rattle.ipc_column.specs.Nested.{Nested, slot_values}
use Rattle.ipc_column.specs.checks.Checks.{has_bitmap}
use Rattle.ipc_column.proofs.SlotValues.{TellsNulls, column_marked, slot_count}
use Rattle.ipc_column.proofs.slot_view.SlotView.null_bitmap.Goals as goal

pub returns-in_default-clause-marks : goal.returns-in_default-clause-marks
returns-in_default-clause-marks c =
    let n = c.args.self.now in
    subst (λ (bs : List ℕ). MarksNulls bs (slot_values n)) (sym (ap (λ (n : Nested). n.column.validity) c.self.view_is))
    (column_marked n (subst (λ (n : Nested). TellsNulls n.column.layout) c.self.view_is (c.in_default.not-Null, c.in_default.not-Indices)))

pub returns-in_default-clause-bits : goal.returns-in_default-clause-bits
returns-in_default-clause-bits c =
    let n = c.args.self.now in
    let count = slot_count n ∙ sym (ap (λ (n : Nested). n.column.slots) c.self.view_is) in
    subst (λ (k : ℕ). has_bitmap k (length c.self.inside.validity.now) ≡ true) (sym count) c.self.invariant.bitmap
