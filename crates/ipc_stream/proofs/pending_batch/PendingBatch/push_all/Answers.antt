use Rattle.std.proofs.Common.{◌≡◌, ◌∙◌, sym, ap, subst, ℕ, ◌+◌, ◌<◌, ◌++◌, ◌∷◌, [], List, length, take, get_or, arith, false}
use Rattle.std.proofs.lemmas.List.{take_all, take_more}
use Rattle.std.proofs.lemmas.Result.{err_from_is_err_and}
use Rattle.ipc_model.specs.declared.value.Value.{Value}
use Rattle.ipc_model.specs.declared.fault.WriteFault.{WriteFault}
use Rattle.ipc_stream.specs.PendingBatches.{HoldsBatch, RefusesPending, with_rows}
use Rattle.ipc_stream.proofs.FirstRows.{refused_at_first}
use Rattle.ipc_stream.proofs.pending_batch.PendingBatch.push_all.Goals as goal

-- the rows so far and the next one
next : (rows : List (List Value)) (i : ℕ) (row item : List Value) → i < length rows → item ≡ get_or rows i item → row ≡ item
    → take i rows ++ row ∷ [] ≡ take (i + 1) rows
next rows i row item inside is same =
    ap (λ (r : List Value). take i rows ++ r ∷ []) (same ∙ is) ∙ sym (take_more rows i item inside)

pub returns-in_err-push-clause-refused : goal.returns-in_err-push-clause-refused
returns-in_err-push-clause-refused c = λ limits pairs well h.
    let rows = c.args.rows.now in
    let i = c.loop-row.row-index in
    let fault = c.in_err-push.field-0.0 in
    let p = err_from_is_err_and c.from_residual.result c.from_residual.ensures.1 in
    let is = next rows i c.as_slice.result.now c.row-item.result c.loop-row-test.true c.row-item.is c.as_slice.ensures in
    let report = c.in_err-push.ensures.refused limits (with_rows pairs (take i rows)) well (c.loop-row.invariant limits pairs well h) in
    rw (p.1, p.2) (refused_at_first limits c.args.schema.now pairs rows (i + 1) fault
    (subst (λ (rs : List (List Value)). RefusesPending limits c.args.schema.now (with_rows pairs rs) false fault) is report))

pub returns-in_err-push-clause-only : goal.returns-in_err-push-clause-only
returns-in_err-push-clause-only c = λ limits pairs well h.
    let rows = c.args.rows.now in
    let i = c.loop-row.row-index in
    let p = err_from_is_err_and c.from_residual.result c.from_residual.ensures.1 in
    let report = c.in_err-push.ensures.refused limits (with_rows pairs (take i rows)) well (c.loop-row.invariant limits pairs well h) in
    rw (p.1, p.2) (λ e. subst (λ (f : WriteFault). RefusesPending limits c.args.schema.now
    (with_rows pairs (take i rows ++ c.as_slice.result.now ∷ [])) false f) e report)

pub loop-row-preserved : goal.loop-row-preserved
loop-row-preserved c = λ limits pairs well h.
    let rows = c.args.rows.now in
    let i = c.loop-row.row-index in
    let is = next rows i c.as_slice.result.now c.row-item.result c.loop-row-test.true c.row-item.is c.as_slice.ensures in
    subst (λ (rs : List (List Value)). HoldsBatch limits c.args.schema.now (with_rows pairs rs) c.push.new.self) is
    (c.in_ok-push.ensures.holds limits (with_rows pairs (take i rows)) well (c.loop-row.invariant limits pairs well h))

pub returns-clause-holds : goal.returns-clause-holds
returns-clause-holds c = λ limits pairs well h.
    let whole = take_all c.loop-row.row-index c.args.rows.now (omega (arith, c.loop-row-test.false)) in
    subst (λ (rs : List (List Value)). HoldsBatch limits c.args.schema.now (with_rows pairs rs) c.loop-row.self) whole
    (c.loop-row.invariant limits pairs well h)
