use Rattle.std.proofs.Common.{◌≡◌, ◌∙◌, ◌<◌, ap, subst, ◌+◌, ◌++◌, List, [], ◌∷◌, length, take, get_or, arith}
use Rattle.std.proofs.lemmas.List.{take_all}
use Rattle.std.proofs.lemmas.Result.{err_from_is_err_and}
use Rattle.ipc_model.specs.declared.value.Value.{Value}
use Rattle.ipc_column.specs.Shapes.{bare, field}
use Rattle.ipc_encode.specs.Cells.{cell, cells}
use Rattle.ipc_encode.specs.Built.{ArePushesRefused, IsColumn, IsNode}
use Rattle.ipc_encode.specs.Numbers.{known_indices}
use Rattle.ipc_encode.proofs.Copied.{cells_next}
use Rattle.ipc_encode.proofs.Growing.{all_refused}
use Rattle.ipc_encode.proofs.Steps.{cells_length}
use Rattle.ipc_encode.proofs.encoding.take_column.Goals as goal

pub returns-in_err-append-clause-refused : goal.returns-in_err-append-clause-refused
returns-in_err-append-clause-refused g c = λ layout children h.
    let limits = c.args.limits.now in
    let rows = c.args.batch.now.rows in
    let column = c.args.column in
    let row = c.loop-row.row in
    let inside : row < length rows = omega (arith, c.loop-row-test.true, c.rows-row-end.ensures) in
    let is : c.in_ok-value.value ≡ cell column (get_or rows row []) = c.in_ok-value.ensures.value in
    let so_far = take row (cells column rows) in
    let fault = c.in_err-append.field-0.0 in
    let refused = (c.in_err-append.ensures.appended layout children so_far (c.loop-row.invariant layout children h)).refused in
    let p = err_from_is_err_and c.from_residual-in_err-append.result c.from_residual-in_err-append.ensures.1 in
    rw (p.1, p.2) (all_refused limits layout children [] (cells column rows) (row + 1) fault
    (subst (λ (vs : List Value). ArePushesRefused limits (field layout children bare) (λ j. vs) fault)
    (ap (λ (v : Value). so_far ++ v ∷ []) is ∙ cells_next column rows row inside) refused))

pub loop-row-preserved : goal.loop-row-preserved
loop-row-preserved g c = λ layout children h.
    let rows = c.args.batch.now.rows in
    let column = c.args.column in
    let row = c.loop-row.row in
    let inside : row < length rows = omega (arith, c.loop-row-test.true, c.rows-row-end.ensures) in
    let is : c.in_ok-value.value ≡ cell column (get_or rows row []) = c.in_ok-value.ensures.value in
    let so_far = take row (cells column rows) in
    subst (λ (vs : List Value). IsNode (IsColumn (known_indices (g.I.IndexOf.index c.args.indices.now)) c.args.limits.now) layout children
    c.append.new.node vs) (ap (λ (v : Value). so_far ++ v ∷ []) is ∙ cells_next column rows row inside)
    (c.in_ok-append.ensures.appended layout children so_far (c.loop-row.invariant layout children h)).appended

pub returns-clause-taken : goal.returns-clause-taken
returns-clause-taken g c = λ layout children h.
    let rows = c.args.batch.now.rows in
    let column = c.args.column in
    let size = cells_length column rows in
    let whole : take c.loop-row.row (cells column rows) ≡ cells column rows =
    take_all c.loop-row.row (cells column rows) (omega (arith, size, c.loop-row-test.false, c.loop-row.auto.row-end)) in
    subst (λ (vs : List Value). IsNode (IsColumn (known_indices (g.I.IndexOf.index c.args.indices.now)) c.args.limits.now) layout children
    c.loop-row.node vs) whole (c.loop-row.invariant layout children h)
