use Rattle.ipc_model.specs.Layouts.{type_layout}
use Rattle.ipc_model.specs.declared.schema.Field.{out-Field}
use Rattle.ipc_column.specs.Nested.{slot_values}
use Rattle.ipc_column.specs.checks.Plain.{IsShownBy}
use Rattle.ipc_conform.proofs.FittingColumns.{all_at, own_slot, shown_slot, plain_shows}
use Rattle.ipc_conform.proofs.conforming.leaf_fits.Goals as goal

pub returns-then-shows_type : goal.returns-then-shows_type
returns-then-shows_type c = λ yes i m may.
    let kind = (out-Field c.args.field.now).kind in
    let vs = slot_values c.args.view.now in
    shown_slot c.args.field.now (type_layout kind) _ (plain_shows kind (c.shows_type.ensures.plain c.if-shows_type.true)) c.requires may
    (all_at (IsShownBy (type_layout kind)) vs i m (c.shows_type.ensures.shows c.if-shows_type.true))

pub returns : goal.returns
returns c = λ yes i m may. own_slot c.args.field.now _ c.requires may (c.are_own_numbers.ensures yes i m)
