use Rattle.std.proofs.Common.{◌∙◌, sym, ap, subst, length, ◌<◌}
use Rattle.std.specs.Prelude.{slice_get}
use Rattle.ipc_column.specs.Values.{Cells}
use Rattle.ipc_column.proofs.view.ColumnView.at.Goals as goal

pub cell-requires-clause-slot : goal.cell-requires-clause-slot
cell-requires-clause-slot c = subst (λ (vs : Cells). c.args.slot < length vs) (sym c.self.view_is) c.requires

pub cell-requires-clause-texts : goal.cell-requires-clause-texts
cell-requires-clause-texts c =
    c.self.invariant c.args.slot (subst (λ (vs : Cells). c.args.slot < length vs) (sym c.self.view_is) c.requires)

pub returns : goal.returns
returns c = ap (λ (vs : Cells). slice_get vs c.args.slot) (sym c.self.view_is) ∙ c.cell.ensures
