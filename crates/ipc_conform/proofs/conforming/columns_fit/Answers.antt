use Rattle.std.proofs.Common.{◌≡◌, ◌∙◌, refl, sym, subst, ◌<◌, length, [], get_or, arith}
use Rattle.std.proofs.lemmas.Option.{get_or_from_slice_get, slice_get-get_or}
use Rattle.ipc_model.specs.Fits.{Fits}
use Rattle.ipc_model.specs.declared.value.Value.{Value}
use Rattle.ipc_model.specs.declared.value.Value.TheVariants.{Null}
use Rattle.ipc_column.specs.Nested.{slot_values}
use Rattle.ipc_conform.proofs.FittingColumns.{fits_next, rows_fit}
use Rattle.ipc_conform.proofs.conforming.columns_fit.Goals as goal

pub loop-i-preserved : goal.loop-i-preserved
loop-i-preserved c = λ r m.
    let rows = c.args.batch.now.rows in
    let i = c.loop-i.i in
    let vs = slot_values c.slots.result in
    let size = c.slots.ensures.values.size in
    let there : r < length vs = omega (arith, m, size) in
    let cell = get_or_from_slice_get (get_or rows r []) i (get_or vs r Null) Null
    (c.slots.ensures.values.each r m ∙ slice_get-get_or vs r Null there) in
    fits_next i c.args.fields.now (get_or rows r []) c.index-fields-i.result c.index-fields-i.is (c.loop-i.invariant r m)
    (subst (λ (v : Value). Fits c.index-fields-i.result v) (sym cell)
    (c.slots_fit.ensures c.if-not-slots_fit.false r there refl))

pub returns : goal.returns
returns c = λ yes.
    let wide : c.columns.result ≡ length c.args.fields.now = omega (arith, c.if-columns-fields.false) in
    rows_fit c.args.fields.now c.args.batch.now.rows c.columns.result wide c.columns.ensures.rows
    (λ r m k inside. c.loop-i.invariant r m k (omega (arith, inside, c.loop-i-test.false)))
