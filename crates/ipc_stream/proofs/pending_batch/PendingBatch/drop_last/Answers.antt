use Rattle.std.proofs.Common.{sym, subst}
use Rattle.ipc_encode.specs.Numbers.{known_indices}
use Rattle.ipc_dict.specs.Noting.{place_of_value}
use Rattle.ipc_dict.specs.Sending.{tally_of_rows}
use Rattle.ipc_dict.specs.TallyState.{TallyState}
use Rattle.std.proofs.Common.{[], ◌∷◌, ◌++◌}
use Rattle.ipc_stream.specs.PendingBatches.{HasCounted}
use Rattle.ipc_stream.proofs.HeldTallies.{rows_cut}
use Rattle.ipc_stream.proofs.pending_batch.PendingBatch.drop_last.Goals as goal

pub returns-clause-holds : goal.returns-clause-holds
returns-clause-holds c = λ limits s b row well h.
    let popped = c.pop.ensures.rows (known_indices (place_of_value (tally_of_rows s.fields (b.rows ++ row ∷ [])))) limits s.fields b.rows
    row h.rows in
    record {
      tally = subst (λ (t : TallyState). HasCounted limits s.fields b.rows t) (sym c.cut.ensures) h.before;
      rows = rows_cut limits s.fields b.rows row c.pop.new.self well.each popped;
      pairs = h.pairs;
      accepted = h.accepted;
    }
