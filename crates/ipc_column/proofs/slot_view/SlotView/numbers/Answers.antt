use Rattle.std.proofs.Common.{◌∙◌, sym, ap, refl}
use Rattle.ipc_column.specs.Leaves.{values_or_none}
use Rattle.ipc_column.specs.Lending.{are_numbers}
use Rattle.ipc_column.specs.Lent.{column_of_buffers}
use Rattle.ipc_column.specs.Nested.{Nested}
use Rattle.ipc_column.proofs.lending.Lent.{lent_numbers}
use Rattle.ipc_column.proofs.slot_view.SlotView.numbers.Goals as goal

pub returns-in-Numbers-clause-lent : goal.returns-in-Numbers-clause-lent
returns-in-Numbers-clause-lent c =
    sym (ap (λ (n : Nested). are_numbers n.column.layout) (sym c.self.view_is) ∙ ap are_numbers c.in-Numbers.is)

pub returns-in-Numbers-clause-numbers : goal.returns-in-Numbers-clause-numbers
returns-in-Numbers-clause-numbers c =
    let s = c.self.inside in
    lent_numbers (column_of_buffers s.layout s.slots s.validity.now s.offsets.now s.values.now
    (values_or_none s.dictionary)) s.body.now s.children.now
    c.args.self.now _
    c.self.view_is c.in-Numbers.is refl refl c.self.invariant.values
