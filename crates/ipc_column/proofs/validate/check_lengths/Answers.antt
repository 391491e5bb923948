use Rattle.std.proofs.Common.{◌≡◌, ◌∙◌, refl, sym, true}
use Rattle.std.proofs.lemmas.List.{drop_all}
use Rattle.ipc_model.specs.declared.fault.Fault.TheVariants as fault
use Rattle.ipc_column.specs.Columns.{every_top}
use Rattle.ipc_column.specs.checks.Checks.{top_passes}
use Rattle.ipc_column.specs.Views.{part_columns}
use Rattle.ipc_column.proofs.lending.Slots.{tops_judged}
use Rattle.ipc_column.proofs.validate.check_lengths.Goals as goal

pub returns-then-same-2 : goal.returns-then-same-2
returns-then-same-2 c =
    let all : every_top (top_passes fault.BadNode c.args.rows) (part_columns c.args.body.now c.args.parts.now) ≡ true =
    sym c.loop-part.invariant
    ∙ (rw (c.if-same-2.true, drop_all c.loop-part.part-index c.args.parts.now c.loop-part-test.false) refl) in
    tops_judged (part_columns c.args.body.now c.args.parts.now) c.args.rows all
