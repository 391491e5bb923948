use Rattle.std.proofs.Common.{◌≡◌, rules, FitsSigned, w64}
use Rattle.std.proofs.lemmas.Int.{to_z-of_z}
use Rattle.ipc_model.specs.declared.schema.DataType.TheVariants.{Date}
use Rattle.ipc_model.specs.declared.schema.DateUnit.TheVariants.{Day, Millisecond}
use Rattle.ipc_text_temporal.proofs.Placed.{up_to_end}
use Rattle.ipc_text_temporal.proofs.texts.put_temporal.Goals as goal

pub returns-in-Date-Day-clause-text : goal.returns-in-Date-Day-clause-text
returns-in-Date-Day-clause-text c =
    let fits : FitsSigned w64 c.args.number = c.ranges.number in
    let kind : c.args.kind.now ≡ Date Day = search rules in
    rw kind (up_to_end _ _ _ _ _ (rw (to_z-of_z w64 c.args.number fits) at c.put_days.ensures) c.requires)

pub returns-in-Date-Millisecond-clause-text : goal.returns-in-Date-Millisecond-clause-text
returns-in-Date-Millisecond-clause-text c =
    let fits : FitsSigned w64 c.args.number = c.ranges.number in
    let kind : c.args.kind.now ≡ Date Millisecond = search rules in
    rw kind (up_to_end _ _ _ _ _ (rw (to_z-of_z w64 c.args.number fits) at c.put_whole_days.ensures) c.requires)
