use Rattle.std.proofs.Common.{◌∙◌, sym, ap, subst, Some}
use Rattle.ipc_model.specs.declared.value.Value.{Value}
use Rattle.ipc_column.specs.Nested.{Nested, child_columns}
use Rattle.ipc_column.specs.Slots.{RefersToValues, value_in_slot}
use Rattle.ipc_column.specs.Values.{row}
use Rattle.ipc_column.proofs.slot_view.SlotView.cell.Goals as goal

pub cell_of-requires : goal.cell_of-requires
cell_of-requires c =
    subst (λ (n : Nested). RefersToValues (child_columns n) c.args.slot c.at.result) (sym c.self.view_is)
    (c.at.ensures.shown c.requires.texts)

pub returns : goal.returns
returns c = c.at.ensures.value
    ∙ (ap (λ (n : Nested). Some (value_in_slot (row (child_columns n)) c.args.slot c.at.result)) (sym c.self.view_is)
    ∙ ap (λ (x : Value). Some x) (sym c.cell_of.ensures))
