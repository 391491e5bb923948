use Rattle.std.proofs.Common.{◌≡◌, ◌∙◌, sym, subst, ℕ, List}
use Rattle.std.proofs.lemmas.Result.{err_from_is_err_and}
use Rattle.ipc_model.specs.declared.fault.WriteFault.{WriteFault}
use Rattle.ipc_model.specs.declared.limits.Limits.{Limits}
use Rattle.ipc_model.specs.declared.schema.Schema.{Schema}
use Rattle.ipc_model.specs.declared.table.BatchRows.{BatchRows}
use Rattle.ipc_model.specs.declared.value.Value.{Value}
use Rattle.ipc_model.proofs.Depths.{short_paths}
use Rattle.ipc_dict.specs.declared.kept.KeptEntry.{KeptEntry}
use Rattle.ipc_dict.specs.declared.seed.Seed.{Seed}
use Rattle.ipc_stream.specs.OpenStreams.{OpenStreamState}
use Rattle.ipc_stream.specs.PendingBatches.{HoldsBatch, RefusesPending, no_rows, with_rows}
use Rattle.ipc_stream.specs.declared.pending_batch.PendingBatch.{PendingBatch}
use Rattle.std.specs.Prelude.{false}
use Rattle.ipc_stream.specs.Writing.{RefusesBatch}
use Rattle.ipc_stream.proofs.FirstRows.{refused_at_first}
use Rattle.ipc_stream.proofs.HeldRows.{judged_sent}
use Rattle.ipc_stream.proofs.SentBytes.{unsent}
use Rattle.ipc_stream.proofs.open_stream.OpenStream.send_batch.Goals as goal

-- a batch without rows is pending in the stream that is seen from inside
begun_inside : (old begun : OpenStreamState) (limits : Limits) (s : Schema) (kept : List KeptEntry) (seed : Seed)
    (pairs : List (List ℕ × List ℕ)) (pending : PendingBatch)
    → record { limits = limits; schema = s; kept = kept; seed = seed } ≡ begun → begun ≡ old
    → HoldsBatch old.limits old.schema (no_rows pairs) pending → HoldsBatch limits s (no_rows pairs) pending
begun_inside old begun limits s kept seed pairs pending view same begins =
    subst (λ (o : OpenStreamState). HoldsBatch o.limits o.schema (no_rows pairs) pending) (sym (view ∙ same)) begins

-- why its rows are refused is why the batch is
rows_refused : (old begun : OpenStreamState) (limits : Limits) (s : Schema) (kept : List KeptEntry) (seed : Seed) (b : BatchRows)
    (pairs : List (List ℕ × List ℕ)) (rows : List (List Value)) (fault : WriteFault)
    → record { limits = limits; schema = s; kept = kept; seed = seed } ≡ begun → begun ≡ old → pairs ≡ b.pairs → rows ≡ b.rows
    → RefusesBatch limits s (with_rows pairs rows) fault → RefusesBatch old.limits old.schema b fault
rows_refused old begun limits s kept seed b pairs rows fault view same copied all refused =
    let given = subst (λ (rs : List (List Value)). RefusesBatch limits s (with_rows pairs rs) fault) all refused in
    let whole = subst (λ (ps : List (List ℕ × List ℕ)). RefusesBatch limits s (with_rows ps b.rows) fault) copied given in
    subst (λ (o : OpenStreamState). RefusesBatch o.limits o.schema b fault) (view ∙ same) whole

-- the batch whose rows were pushed is pending
all_held : (old begun : OpenStreamState) (limits : Limits) (s : Schema) (kept : List KeptEntry) (seed : Seed) (b : BatchRows)
    (pairs : List (List ℕ × List ℕ)) (rows : List (List Value)) (pending new : PendingBatch)
    → record { limits = limits; schema = s; kept = kept; seed = seed } ≡ begun → begun ≡ old → pairs ≡ b.pairs → rows ≡ b.rows
    → HoldsBatch old.limits old.schema (no_rows pairs) pending
    → (HoldsBatch limits s (no_rows pairs) pending → HoldsBatch limits s (with_rows pairs rows) new)
    → HoldsBatch begun.limits begun.schema b new
all_held old begun limits s kept seed b pairs rows pending new view same copied all begins pushes =
    let first = begun_inside old begun limits s kept seed pairs pending view same begins in
    let given = subst (λ (rs : List (List Value)). HoldsBatch limits s (with_rows pairs rs) new) all (pushes first) in
    let whole = subst (λ (ps : List (List ℕ × List ℕ)). HoldsBatch limits s (with_rows ps b.rows) new) copied given in
    subst (λ (o : OpenStreamState). HoldsBatch o.limits o.schema b new) view whole

pub returns-in_err-pending-clause-judged : goal.returns-in_err-pending-clause-judged
returns-in_err-pending-clause-judged g c =
    let copied = c.in_ok-clone.ensures.cases.1 (λ p q same i. (same.0 i, same.1 i)) in
    let p = err_from_is_err_and c.from_residual-in_err-pending.result c.from_residual-in_err-pending.ensures.1 in
    rw (p.1, p.2)
    (refused_at_first c.args.self.now.limits c.args.self.now.schema c.args.batch.now.pairs c.args.batch.now.rows 0 _
    (subst (λ (ps : List (List ℕ × List ℕ)).
    RefusesPending c.args.self.now.limits c.args.self.now.schema (no_rows ps) false c.in_err-pending.field-0.0)
    copied c.in_err-pending.ensures.refused))

pub returns-in_err-push_all-clause-sends : goal.returns-in_err-push_all-clause-sends
returns-in_err-push_all-clause-sends g c =
    let inside = c.self.inside in
    let p = err_from_is_err_and c.from_residual-in_err-push_all.result c.from_residual-in_err-push_all.ensures.1 in
    let begun = begun_inside c.args.self.now c.begin_batch.new.self inside.limits inside.schema inside.kept inside.seed _ _ c.self.view_is
    c.begin_batch.ensures.same c.in_ok-pending.ensures.holds in
    rw (p.1, p.2) (unsent _ _ _ _ (c.in_err-push_all.ensures.only inside.limits c.in_ok-clone.field-0 c.self.invariant.well_formed begun))

pub returns-in_err-push_all-clause-judged : goal.returns-in_err-push_all-clause-judged
returns-in_err-push_all-clause-judged g c =
    let inside = c.self.inside in
    let copied = c.in_ok-clone.ensures.cases.1 (λ p q same i. (same.0 i, same.1 i)) in
    let p = err_from_is_err_and c.from_residual-in_err-push_all.result c.from_residual-in_err-push_all.ensures.1 in
    let begun = begun_inside c.args.self.now c.begin_batch.new.self inside.limits inside.schema inside.kept inside.seed _ _ c.self.view_is
    c.begin_batch.ensures.same c.in_ok-pending.ensures.holds in
    rw (p.1, p.2)
    (rows_refused c.args.self.now c.begin_batch.new.self inside.limits inside.schema inside.kept inside.seed c.args.batch.now _ _ _
    c.self.view_is c.begin_batch.ensures.same copied c.as_slice.ensures
    (c.in_err-push_all.ensures.refused inside.limits c.in_ok-clone.field-0 c.self.invariant.well_formed begun))

pub push_all-requires : goal.push_all-requires
push_all-requires g c = short_paths {limits = c.self.inside.limits} c.self.inside.schema c.self.invariant.well_formed

pub send_rows-requires : goal.send_rows-requires
send_rows-requires g c =
    let copied = c.in_ok-clone.ensures.cases.1 (λ p q same i. (same.0 i, same.1 i)) in
    let pending =
    all_held c.args.self.now c.begin_batch.new.self c.self.inside.limits c.self.inside.schema c.self.inside.kept
    c.self.inside.seed c.args.batch.now _ _ _ _ c.self.view_is c.begin_batch.ensures.same copied c.as_slice.ensures
    c.in_ok-pending.ensures.holds
    (λ h. c.in_ok-push_all.ensures.holds c.self.inside.limits c.in_ok-clone.field-0 c.self.invariant.well_formed h) in
    (pending.tally.same_limits, pending.tally.same_fields)

pub returns-clause-sends : goal.returns-clause-sends
returns-clause-sends g c =
    let copied = c.in_ok-clone.ensures.cases.1 (λ p q same i. (same.0 i, same.1 i)) in
    rw (← c.begin_batch.ensures.same)
    (c.send_rows.ensures.sends c.args.batch.now
    (all_held c.args.self.now c.begin_batch.new.self c.self.inside.limits c.self.inside.schema c.self.inside.kept
    c.self.inside.seed c.args.batch.now _ _ _ _ c.self.view_is c.begin_batch.ensures.same copied c.as_slice.ensures
    c.in_ok-pending.ensures.holds
    (λ h. c.in_ok-push_all.ensures.holds c.self.inside.limits c.in_ok-clone.field-0 c.self.invariant.well_formed h)))

pub returns-clause-sent : goal.returns-clause-sent
returns-clause-sent g c =
    let copied = c.in_ok-clone.ensures.cases.1 (λ p q same i. (same.0 i, same.1 i)) in
    rw (← c.begin_batch.ensures.same)
    (c.send_rows.ensures.sent c.args.batch.now
    (all_held c.args.self.now c.begin_batch.new.self c.self.inside.limits c.self.inside.schema c.self.inside.kept
    c.self.inside.seed c.args.batch.now _ _ _ _ c.self.view_is c.begin_batch.ensures.same copied c.as_slice.ensures
    c.in_ok-pending.ensures.holds
    (λ h. c.in_ok-push_all.ensures.holds c.self.inside.limits c.in_ok-clone.field-0 c.self.invariant.well_formed h)))

pub returns-clause-judged : goal.returns-clause-judged
returns-clause-judged g c =
    let copied = c.in_ok-clone.ensures.cases.1 (λ p q same i. (same.0 i, same.1 i)) in
    let pending =
    all_held c.args.self.now c.begin_batch.new.self c.self.inside.limits c.self.inside.schema c.self.inside.kept
    c.self.inside.seed c.args.batch.now _ _ _ _ c.self.view_is c.begin_batch.ensures.same copied c.as_slice.ensures
    c.in_ok-pending.ensures.holds
    (λ h. c.in_ok-push_all.ensures.holds c.self.inside.limits c.in_ok-clone.field-0 c.self.invariant.well_formed h) in
    rw (← c.begin_batch.ensures.same)
    (judged_sent c.begin_batch.new.self.limits c.begin_batch.new.self.schema c.args.batch.now c.send_rows.result pending.accepted
    (c.send_rows.ensures.only c.args.batch.now pending))
