use Rattle.std.proofs.Common.{◌≡◌, subst, arith, List, ◌++◌, get_or}
use Rattle.std.proofs.lemmas.List.{take_more, take_more_set}
use Rattle.std.proofs.lemmas.Result.{err_from_is_err_and}
use Rattle.ipc_model.specs.declared.fault.WriteFault.TheVariants as w
use Rattle.ipc_model.specs.declared.value.Value.{Value}
use Rattle.ipc_encode.specs.ColumnSizes.{as_rows, CountsRows}
use Rattle.ipc_encode.specs.Faults.{write_fault}
use Rattle.ipc_encode.specs.Limits.{AreRowsRefused}
use Rattle.ipc_dict.proofs.EntryColumns.{counted_at, counted_more, counted_push, entry_over, over_at}
use Rattle.ipc_dict.proofs.columns.count_next.Goals as goal

pub returns-in_err-next-clause-refused : goal.returns-in_err-next-clause-refused
returns-in_err-next-clause-refused c = λ fields h.
    let limits = c.args.limits.now in
    let es = c.args.entries.now in
    let i = c.loop-i.i in
    let m = get_or c.args.marks.now i 0 in
    let e = c.index-entries-i.result in
    let before = c.index-before-i.result in
    let fault = c.in_err-next.field-0.0 in
    let one = counted_at limits fields c.args.marks.now es c.args.before.now i 0 e before (omega arith) (omega arith) (omega arith)
    c.index-entries-i.is c.index-before-i.is h in
    let p = err_from_is_err_and c.from_residual.result c.from_residual.ensures.1 in
    rw (p.1, p.2) (over_at limits fields es i e (write_fault fault) (omega arith) c.index-entries-i.is
    (entry_over limits fields m e before (write_fault fault)
    (λ columns rows k. subst (λ (vs : List Value). AreRowsRefused limits columns (rows ++ as_rows vs) (write_fault fault)
    × (write_fault fault ≡ w.OutOfMemory → ⊥)) c.since.ensures (c.in_err-next.ensures.refused columns rows k)) one))

pub loop-i-preserved : goal.loop-i-preserved
loop-i-preserved c = λ fields h.
    let limits = c.args.limits.now in
    let es = c.args.entries.now in
    let i = c.loop-i.i in
    let m = get_or c.args.marks.now i 0 in
    let e = c.index-entries-i.result in
    let before = c.index-before-i.result in
    let after = c.in_ok-next.field-0 in
    let one = counted_at limits fields c.args.marks.now es c.args.before.now i 0 e before (omega arith) (omega arith) (omega arith)
    c.index-entries-i.is c.index-before-i.is h in
    let more = counted_more limits fields m e before after
    (λ columns rows k. subst (λ (vs : List Value). CountsRows limits columns (rows ++ as_rows vs) after) c.since.ensures
    (c.in_ok-next.ensures.counts columns rows k)) one in
    rw (take_more es i e (omega arith), ← c.index-entries-i.is, take_more_set c.loop-i.next i after (omega arith))
    (counted_push limits fields _ _ e after (c.loop-i.invariant fields h) more)
