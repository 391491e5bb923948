use Rattle.std.proofs.Common.{◌∙◌, sym}
use Rattle.ipc_model.proofs.FirstRowFaults.{first_both}
use Rattle.ipc_conform.proofs.FittingColumns.{misfit}
use Rattle.ipc_conform.proofs.conforming.check_row.Goals as goal

pub returns-in-Err-clause-misfit : goal.returns-in-Err-clause-misfit
returns-in-Err-clause-misfit c = λ rows inside is before.
    misfit c.args.schema.now.fields rows c.args.number c.args.row.now c.in-Err.fault c.conforms.result _ inside is before
    c.conforms.ensures.fits.1
    (c.in-Err.is ∙ sym ((first_both c.args.schema.now.fields c.args.row.now c.in-Err.fault).1 c.in-Err.ensures.first)) c.in-Err.is
    c.at_row.ensures
