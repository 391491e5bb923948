use Rattle.std.proofs.Common.{◌≡◌, ◌∙◌, refl, sym, ap, subst, ℕ, ◌<◌, List, length, get_or, rules, arith, true}
use Rattle.ipc_model.specs.Fits.{Fits, InnerFit}
use Rattle.ipc_model.specs.declared.layout.Layout.TheVariants as l
use Rattle.ipc_model.specs.declared.schema.DataType.TheVariants as kinds
use Rattle.ipc_model.specs.declared.schema.Field.{Field, out-Field}
use Rattle.ipc_model.specs.declared.schema.Field.TheViews.{the_lemmas}
use Rattle.ipc_model.specs.declared.value.Value.{Value}
use Rattle.ipc_model.specs.declared.value.Value.TheOpen as values
use Rattle.ipc_model.specs.declared.value.Value.TheVariants.{Null}
use Rattle.ipc_column.proofs.SlotValues.{slot_count}
use Rattle.ipc_column.proofs.lending.Lendings.{lent_bitmap}
use Rattle.ipc_column.specs.Nested.{child_columns, slot_values}
use Rattle.ipc_column.specs.Values.{is_valid, row}
use Rattle.ipc_column.specs.checks.Checks.{has_bitmap}
use Rattle.ipc_conform.proofs.FittingColumns.{each_fits, fits_next, fixed_slot, inner_all, list_slot, part_slot, struct_slot}
use Rattle.ipc_conform.proofs.conforming.+slots.Goals as goal

-- ---- one column

pub slots_fit-returns-then-is_empty : goal.slots_fit-returns-then-is_empty
slots_fit-returns-then-is_empty t c = λ yes i m valid.
    c.leaf_fits.ensures yes i m (c.nulls_fit.ensures c.if-not-nulls_fit.false i m valid)

pub slots_fit-returns-in-List-Lists : goal.slots_fit-returns-in-List-Lists
slots_fit-returns-in-List-Lists t c = λ yes i m valid.
    let inner = c.items_fit.ensures yes in
    list_slot c.args.view.now inner.0 c.buffers.result c.args.field.now i c.buffers.ensures c.in-List-Lists.is-1 c.in-List-Lists.is-0
    inner.1.0 m (c.nulls_fit.ensures c.if-not-nulls_fit.false i m valid)
    (subst (λ (fs : List Field). InnerFit Fits kinds.List fs (values.List (slot_values inner.0))) c.as_slice-fields.ensures inner.1.1)

pub slots_fit-returns-in-Struct-Structs : goal.slots_fit-returns-in-Struct-Structs
slots_fit-returns-in-Struct-Structs t c = λ yes i m valid.
    let laid : c.args.view.now.column.layout ≡ l.Structs = sym c.buffers.ensures.layout ∙ c.in-Struct-Structs.is-1 in
    struct_slot c.args.view.now c.args.field.now c.as_slice-fields.result.now i laid c.in-Struct-Structs.is-0
    c.as_slice-fields.ensures (c.parts_fit.ensures.size yes) m (c.nulls_fit.ensures c.if-not-nulls_fit.false i m valid)
    (c.parts_fit.ensures.fits yes i m)

pub slots_fit-returns-in-FixedSizeList-FixedLists : goal.slots_fit-returns-in-FixedSizeList-FixedLists
slots_fit-returns-in-FixedSizeList-FixedLists t c = λ yes i m valid.
    let inner = c.items_fit-in-FixedSizeList-FixedLists.ensures yes in
    let size = c.in-FixedSizeList-FixedLists.items in
    let laid : c.args.view.now.column.layout ≡ l.FixedLists size = sym c.buffers.ensures.layout ∙ c.in-FixedSizeList-FixedLists.is-1 in
    let kind : (out-Field c.args.field.now).kind ≡ kinds.FixedSizeList size =
    c.in-FixedSizeList-FixedLists.is-0 ∙ ap (λ (n : ℕ). kinds.FixedSizeList n) c.if-size-items.true in
    fixed_slot c.args.view.now inner.0 c.buffers.result c.args.field.now size i c.buffers.ensures laid kind inner.1.0 m
    (c.nulls_fit.ensures c.if-not-nulls_fit.false i m valid)
    (subst (λ (fs : List Field). InnerFit Fits kinds.List fs (values.List (slot_values inner.0))) c.as_slice-fields.ensures inner.1.1)

-- ---- lists

pub items_fit-returns : goal.items_fit-returns
items_fit-returns t c = λ yes. (
  c.child.result,
  (
    c.child.ensures,
    inner_all c.args.fields.now (slot_values c.child.result) c.index-fields-0.result
        (λ i m. subst (λ (g : Field). Fits g (get_or (slot_values c.child.result) i Null)) c.index-fields-0.is
        (c.slots_fit.ensures yes i m refl)),
  ),
)

-- ---- structs

pub parts_fit-slots_fit-requires : goal.parts_fit-slots_fit-requires
parts_fit-slots_fit-requires t c = (
  search (rules, the_lemmas),
  let s = c.args.view.now in
      let count : s.column.slots ≡ length (slot_values c.child-child.result) =
      sym (slot_count s) ∙ omega (arith, c.if-len.false, c.len.ensures, c.len-in-loop-i.ensures) in
      subst (λ (k : ℕ). has_bitmap k (length c.buffers.result.validity.now) ≡ true) count
      (subst (λ (bs : List ℕ). has_bitmap s.column.slots (length bs) ≡ true) (sym c.buffers.ensures.validity)
      (lent_bitmap s c.buffers.result c.buffers.ensures)),
)

pub parts_fit-loop-i-preserved : goal.parts_fit-loop-i-preserved
parts_fit-loop-i-preserved t c = λ j m valid.
    let s = c.args.view.now in
    let i = c.loop-i.i in
    let f = c.index-fields-i.result in
    let there : j < length (slot_values c.child-child.result) = omega (arith, m, c.if-len.false, c.len.ensures, c.len-in-loop-i.ensures) in
    let marked : is_valid c.buffers.result.validity.now j ≡ true =
    subst (λ (bs : List ℕ). is_valid bs j ≡ true) (sym c.buffers.ensures.validity) valid in
    fits_next i c.args.fields.now (row (child_columns s) j) f c.index-fields-i.is (c.loop-i.invariant j m valid)
    (subst (λ (w : Value). Fits f w) (part_slot s c.child-child.result i j c.child-child.ensures there)
    (c.slots_fit.ensures c.if-not-slots_fit.false j there marked))

pub parts_fit-returns-clause-fits : goal.parts_fit-returns-clause-fits
parts_fit-returns-clause-fits t c = λ yes j m valid.
    each_fits c.args.fields.now (row (child_columns c.args.view.now) j)
    (λ k inside. c.loop-i.invariant j m valid k (omega (arith, inside, c.loop-i-test.false, c.if-fields-count.false)))
