use Rattle.std.proofs.Common.{ap, sym, ◌∙◌}
use Rattle.ipc_model.proofs.FirstRowFaults.{first_both}
use Rattle.ipc_model.specs.Refusals.{refusal_of}
use Rattle.ipc_encode.specs.Numbers.{known_indices}
use Rattle.ipc_dict.specs.Noting.{place_of_value}
use Rattle.ipc_dict.specs.Sending.{tally_of_rows}
use Rattle.ipc_stream.proofs.HeldRows.{misfit_last}
use Rattle.ipc_stream.proofs.pending_batch.PendingBatch.check_last.Goals as goal

pub returns-in-Err-clause-refused : goal.returns-in-Err-clause-refused
returns-in-Err-clause-refused c = λ limits b well h.
    let schema = c.args.schema.now in
    let held = c.drop_last.ensures.holds limits schema b c.args.row.now well h in
    rw c.at_row.ensures
    (misfit_last schema.fields b.rows c.args.row.now c.in-Err.fault c.conforms.result _ h.accepted.fit c.conforms.ensures.fits.1
    (c.in-Err.is ∙ sym ((first_both schema.fields c.args.row.now c.in-Err.fault).1 c.in-Err.ensures.first)) c.in-Err.is
    (ap (refusal_of c.in-Err.fault)
    (c.row_count.ensures (known_indices (place_of_value (tally_of_rows schema.fields b.rows))) limits schema.fields b.rows held.rows)))
