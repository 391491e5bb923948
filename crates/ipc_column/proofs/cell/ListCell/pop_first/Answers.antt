use Rattle.std.proofs.Common.{◌∙◌, sym, arith}
use Rattle.ipc_column.specs.Values.{first_at}
use Rattle.ipc_column.specs.Views.{part_columns}
use Rattle.ipc_column.proofs.lending.CellIters.{have_next, items_then}
use Rattle.ipc_column.proofs.cell.ListCell.pop_first.Goals as goal

pub invariant_of-self : goal.invariant_of-self
invariant_of-self c =
    let s = c.self.inside in
    let order = c.self.invariant.slots.order in
    have_next (part_columns s.body.now s.parts.now) s.from s.to (omega arith) c.self.invariant

pub returns : goal.returns
returns c =
    let s = c.self.inside in
    let order = c.self.invariant.slots.order in
    sym c.self.view_is
    ∙ items_then (first_at (part_columns s.body.now s.parts.now)) s.from s.to _ (omega arith) c.item_at-cell.ensures
