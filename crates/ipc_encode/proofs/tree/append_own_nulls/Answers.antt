use Rattle.std.proofs.Common.{◌∙◌, subst, ◌+◌, ◌++◌, List, ◌∷◌, [], replicate, arith}
use Rattle.std.proofs.lemmas.Result.{err_from_is_err_and}
use Rattle.ipc_model.specs.declared.value.Value.{Value}
use Rattle.ipc_model.specs.declared.value.Value.TheVariants.{Null}
use Rattle.ipc_column.specs.Shapes.{bare, field}
use Rattle.ipc_encode.specs.Built.{ArePushesRefused, IsColumn}
use Rattle.ipc_encode.specs.Numbers.{known_indices}
use Rattle.ipc_encode.proofs.Steps.{null_next, nulls_first}
use Rattle.ipc_encode.proofs.Growing.{own_refused, all_refused}
use Rattle.ipc_encode.proofs.tree.append_own_nulls.Goals as goal

pub returns-in_err-push-clause-refused : goal.returns-in_err-push-clause-refused
returns-in_err-push-clause-refused g c = λ layout children values h.
    let p = err_from_is_err_and c.from_residual.result c.from_residual.ensures.1 in
    let so_far = values ++ replicate c.loop.counter Null in
    let refusal = own_refused c.args.limits.now layout children bare (λ j. so_far ++ Null ∷ []) c.in_err-push.field-0.0
    (c.in_err-push.ensures.refused layout so_far (c.loop.invariant layout values h)) in
    let next = null_next values c.loop.counter ∙ nulls_first values (c.loop.counter + 1) c.args.count (omega (arith, c.loop-test.true)) in
    rw (p.1, p.2) (all_refused c.args.limits.now layout children values (replicate c.args.count Null) (c.loop.counter + 1)
    c.in_err-push.field-0.0
    (subst (λ (vs : List Value). ArePushesRefused c.args.limits.now (field layout children bare) (λ j. vs) c.in_err-push.field-0.0)
    next refusal))

pub returns-in_err-push-clause-begun : goal.returns-in_err-push-clause-begun
returns-in_err-push-clause-begun g c = λ layout values h.
    let p = err_from_is_err_and c.from_residual.result c.from_residual.ensures.1 in
    let so_far = replicate c.loop.counter Null in
    rw (p.1, p.2) (λ other. (so_far, c.in_err-push.ensures.kept layout (values ++ so_far) (c.loop.invariant layout values h) other))

pub loop-preserved : goal.loop-preserved
loop-preserved g c = λ layout values h.
    subst (λ (vs : List Value). IsColumn (known_indices (g.I.IndexOf.index c.args.indices.now)) c.args.limits.now layout vs
    c.push.new.self) (null_next values c.loop.counter)
    (c.in_ok-push.ensures.pushed layout (values ++ replicate c.loop.counter Null) (c.loop.invariant layout values h))
