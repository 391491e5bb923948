use Rattle.std.proofs.Common.{◌≡◌, ◌∙◌, sym, ap, subst, arith, List}
use Rattle.std.proofs.Common.{[], ◌∷◌, ◌++◌, ◌+◌, take, take_all}
use Rattle.std.proofs.lemmas.List.{take_more}
use Rattle.std.proofs.lemmas.Result.{err_from_is_err_and}
use Rattle.ipc_model.specs.declared.schema.Field.{Field}
use Rattle.ipc_model.specs.declared.value.Value.{Value}
use Rattle.ipc_encode.specs.Built.{AreCountsOf}
use Rattle.ipc_encode.specs.Buffers.{row_columns}
use Rattle.ipc_encode.specs.ColumnSizes.{as_rows, CountsRows}
use Rattle.ipc_encode.proofs.Held.{body_refused, more_column, not_memory, value_refused}
use Rattle.ipc_encode.proofs.column_sizes.ColumnSizes.with.Goals as goal

-- the numbers with all values
counted : (c : goal.After-within_body) (fields : List Field) (rows : List (List Value))
    → CountsRows c.args.limits.now fields rows c.args.self
    → AreCountsOf c.args.limits.now c.args.self.layout (row_columns (rows ++ as_rows c.args.values.now) 0) c.loop-value.counts
counted c fields rows h =
    let vs = c.args.values.now in
    let all : take c.loop-value.value-index vs ≡ vs = take_all c.loop-value.value-index vs (omega (arith, c.loop-value-test.false)) in
    subst (λ (ws : List Value). AreCountsOf c.args.limits.now c.args.self.layout ws c.loop-value.counts)
    (ap (λ (ws : List Value). row_columns rows 0 ++ ws) all ∙ sym (more_column rows vs))
    (c.loop-value.invariant (row_columns rows 0) h.counts)

pub returns-in_err-counts-clause-refused : goal.returns-in_err-counts-clause-refused
returns-in_err-counts-clause-refused c = λ fields rows h.
    let limits = c.args.limits.now in
    let vs = c.args.values.now in
    let i = c.loop-value.value-index in
    let v = c.value-item.result in
    let fault = c.in_err-counts.field-0.0 in
    let next : take (i + 1) vs ≡ take i vs ++ v ∷ [] =
    take_more vs i v c.loop-value-test.true ∙ ap (λ (w : Value). take i vs ++ w ∷ []) (sym c.value-item.is) in
    let p = err_from_is_err_and c.from_residual.result c.from_residual.ensures.1 in
    rw (p.1, p.2) (
      value_refused limits fields rows c.args.self.layout vs i v fault h.shape next
          (c.in_err-counts.ensures.refused (row_columns rows 0 ++ take i vs) (c.loop-value.invariant (row_columns rows 0) h.counts)),
      not_memory fault c.in_err-counts.ensures.memory,
    )

pub returns-clause-counts : goal.returns-clause-counts
returns-clause-counts c = λ fields rows h.
    c.within_body.ensures.counts fields (rows ++ as_rows c.args.values.now) h.shape (counted c fields rows h)

pub returns-clause-refused : goal.returns-clause-refused
returns-clause-refused c = λ fields rows h.
    let all = rows ++ as_rows c.args.values.now in
    body_refused c.args.limits.now fields all c.within_body.result
    (c.within_body.ensures.refused fields all h.shape (counted c fields rows h))
