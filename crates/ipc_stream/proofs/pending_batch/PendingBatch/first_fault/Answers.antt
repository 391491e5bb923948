use Rattle.std.proofs.Common.{ap, sym, ◌∙◌}
use Rattle.ipc_model.proofs.FirstRowFaults.{first_both}
use Rattle.ipc_model.specs.Refusals.{refusal_of}
use Rattle.ipc_encode.specs.Numbers.{known_indices}
use Rattle.ipc_dict.specs.Noting.{place_of_value}
use Rattle.ipc_dict.specs.Sending.{tally_of_rows}
use Rattle.ipc_stream.proofs.HeldRows.{misfit_last}
use Rattle.ipc_stream.proofs.pending_batch.PendingBatch.first_fault.Goals as goal

pub returns-in-Err : goal.returns-in-Err
returns-in-Err c = λ limits b h refused.
    let schema = c.args.schema.now in
    rw c.at_row.ensures
    (misfit_last schema.fields b.rows c.args.row.now c.in-Err.misfit c.conforms.result _ h.accepted.fit c.conforms.ensures.fits.1
    (c.in-Err.is ∙ sym ((first_both schema.fields c.args.row.now c.in-Err.misfit).1 c.in-Err.ensures.first)) c.in-Err.is
    (ap (refusal_of c.in-Err.misfit)
    (c.row_count.ensures (known_indices (place_of_value (tally_of_rows schema.fields b.rows))) limits schema.fields b.rows h.rows)))
