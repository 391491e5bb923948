use Rattle.std.proofs.Common.{◌∙◌, sym, subst, ap}
use Rattle.ipc_column.specs.Columns.{Columns}
use Rattle.ipc_column.specs.Slots.{RefersToValues, value_in_slot}
use Rattle.ipc_column.specs.Values.{row}
use Rattle.ipc_column.proofs.Parts.{children_out}
use Rattle.ipc_column.proofs.cell.cell_at.Goals as goal

pub cell_of-requires : goal.cell_of-requires
cell_of-requires c =
    rw c.deref.ensures.value
    (subst (λ (cs : Columns). RefersToValues cs c.args.slot c.held_at.result) (children_out c.args.body.now c.args.part.now)
    c.held_at.ensures.shown)

pub returns : goal.returns
returns c = record {
  value = (rw c.deref.ensures.value at c.cell_of.ensures)
      ∙ (ap (λ (cs : Columns). value_in_slot (row cs) c.args.slot c.held_at.result) (sym (children_out c.args.body.now c.args.part.now))
      ∙ c.held_at.ensures.value);
}
