use Rattle.std.proofs.Common.{◌≡◌, ◌∙◌, sym, ap, subst, ℕ, ◌+◌, ◌++◌, [], ◌∷◌, List, take, drop, arith}
use Rattle.std.proofs.lemmas.Result.{err_from_is_err_and}
use Rattle.std.proofs.lemmas.List.{take-append-drop, take_all, take_more}
use Rattle.ipc_model.specs.declared.value.Value.{Value}
use Rattle.ipc_encode.specs.Built.{StoresRows}
use Rattle.ipc_encode.specs.Faults.{write_fault}
use Rattle.ipc_encode.specs.Limits.{AreRowsRefused}
use Rattle.ipc_encode.specs.Numbers.{known_indices}
use Rattle.ipc_encode.proofs.Growing.{refused_more}
use Rattle.ipc_encode.proofs.Indexed.{body_within}
use Rattle.ipc_encode.proofs.builder.encode.Goals as goal

-- the rows so far and the next
rows_next : (rows : List (List Value)) (i : ℕ) (row item : List Value) → take (i + 1) rows ≡ take i rows ++ item ∷ [] → row ≡ item
    → take i rows ++ row ∷ [] ≡ take (i + 1) rows
rows_next rows i row item more same = ap (λ (r : List Value). take i rows ++ r ∷ []) same ∙ sym more

pub returns-in_err-builder-clause-refused : goal.returns-in_err-builder-clause-refused
returns-in_err-builder-clause-refused g c =
    let p = err_from_is_err_and c.from_residual.result c.from_residual.ensures.1 in
    rw (p.1, p.2) (refused_more c.args.limits.now c.args.fields.now [] c.args.rows.now c.in_err-builder.field-0.0
    c.in_err-builder.ensures.refused)

pub loop-row-init : goal.loop-row-init
loop-row-init g c = c.in_ok-builder.ensures.rows (known_indices (g.I.IndexOf.index c.args.indices.now))

pub returns-in_err-push-clause-refused : goal.returns-in_err-push-clause-refused
returns-in_err-push-clause-refused g c =
    let limits = c.args.limits.now in
    let fields = c.args.fields.now in
    let rows = c.args.rows.now in
    let i = c.loop-row.row-index in
    let fault = write_fault c.in_err-push.field-0.0 in
    let next = rows_next rows i c.as_slice.result.now _ (take_more rows i c.row-item.result c.loop-row-test.true)
    (c.as_slice.ensures ∙ c.row-item.is) in
    let first = subst (λ (rs : List (List Value)). AreRowsRefused limits fields rs fault) next
    (c.in_err-push.ensures.refused limits fields (take i rows) c.loop-row.invariant) in
    let p = err_from_is_err_and c.from_residual-in_err-push.result c.from_residual-in_err-push.ensures.1 in
    rw (p.1, p.2) (subst (λ (rs : List (List Value)). AreRowsRefused limits fields rs fault) (take-append-drop (i + 1) rows)
    (refused_more limits fields (take (i + 1) rows) (drop (i + 1) rows) fault first))

pub loop-row-preserved : goal.loop-row-preserved
loop-row-preserved g c =
    let known = known_indices (g.I.IndexOf.index c.args.indices.now) in
    let limits = c.args.limits.now in
    let fields = c.args.fields.now in
    let rows = c.args.rows.now in
    let i = c.loop-row.row-index in
    let next = rows_next rows i c.as_slice.result.now _ (take_more rows i c.row-item.result c.loop-row-test.true)
    (c.as_slice.ensures ∙ c.row-item.is) in
    subst (λ (rs : List (List Value)). StoresRows known limits fields rs c.push.new.self) next
    (c.in_ok-push.ensures.pushed limits fields (take i rows) c.loop-row.invariant)

pub returns-in_err-parts-clause-refused : goal.returns-in_err-parts-clause-refused
returns-in_err-parts-clause-refused g c =
    let known = known_indices (g.I.IndexOf.index c.args.indices.now) in
    let limits = c.args.limits.now in
    let fields = c.args.fields.now in
    let rows = c.args.rows.now in
    let all = take_all c.loop-row.row-index rows (omega (arith, c.loop-row-test.false)) in
    let memory = c.in_err-parts.ensures.refused known limits fields rows
    (subst (λ (rs : List (List Value)). StoresRows known limits fields rs c.loop-row.builder) all c.loop-row.invariant) in
    let p = err_from_is_err_and c.from_residual-in_err-parts.result c.from_residual-in_err-parts.ensures.1 in
    rw (p.1, p.2, memory) tt

pub returns-clause-rows : goal.returns-clause-rows
returns-clause-rows g c = λ m fine conform finds.
    let known = known_indices (g.I.IndexOf.index c.args.indices.now) in
    let limits = c.args.limits.now in
    let fields = c.args.fields.now in
    let rows = c.args.rows.now in
    let all = take_all c.loop-row.row-index rows (omega (arith, c.loop-row-test.false)) in
    rw (c.in_ok-joined.ensures.nodes, c.in_ok-joined.ensures.buffers, c.in_ok-joined.ensures.body)
    (c.in_ok-parts.ensures.rows known limits fields rows m
    (subst (λ (rs : List (List Value)). StoresRows known limits fields rs c.loop-row.builder) all c.loop-row.invariant) fine conform finds)

pub returns-clause-laid_out : goal.returns-clause-laid_out
returns-clause-laid_out g c =
    let known = known_indices (g.I.IndexOf.index c.args.indices.now) in
    let limits = c.args.limits.now in
    let fields = c.args.fields.now in
    let rows = c.args.rows.now in
    let all = take_all c.loop-row.row-index rows (omega (arith, c.loop-row-test.false)) in
    let parts = c.in_ok-parts.ensures.segmented known limits fields rows
    (subst (λ (rs : List (List Value)). StoresRows known limits fields rs c.loop-row.builder) all c.loop-row.invariant) in
    record {
      nodes = c.in_ok-joined.ensures.nodes ∙ parts.nodes;
      buffers = c.in_ok-joined.ensures.buffers ∙ parts.buffers;
      body = c.in_ok-joined.ensures.body ∙ parts.body;
    }

pub returns-clause-body : goal.returns-clause-body
returns-clause-body g c =
    let known = known_indices (g.I.IndexOf.index c.args.indices.now) in
    let limits = c.args.limits.now in
    let fields = c.args.fields.now in
    let rows = c.args.rows.now in
    let all = take_all c.loop-row.row-index rows (omega (arith, c.loop-row-test.false)) in
    let held = subst (λ (rs : List (List Value)). StoresRows known limits fields rs c.loop-row.builder) all c.loop-row.invariant in
    body_within limits known fields rows _
    (c.in_ok-joined.ensures.body ∙ (c.in_ok-parts.ensures.segmented known limits fields rows held).body) held.within
