use Rattle.std.proofs.Common.{◌≡◌, ◌∙◌, sym, ap, subst, ℕ, length, get_or, false, inl, inr, arith}
use Rattle.std.proofs.lemmas.Bool.{cases_eq, true≢false}
use Rattle.std.proofs.lemmas.Option.{get_or_from_slice_get}
use Rattle.ipc_model.specs.Fits.{FitsOwnType}
use Rattle.ipc_model.specs.declared.layout.Layout.TheVariants as l
use Rattle.ipc_model.specs.declared.schema.Field.{out-Field}
use Rattle.ipc_model.specs.declared.value.Value.{Value, out-Value}
use Rattle.ipc_model.specs.declared.value.Value.TheVariants.{Null}
use Rattle.ipc_column.proofs.SlotValues.{slot_is}
use Rattle.ipc_column.proofs.visited.Leads.{nothing_shown}
use Rattle.ipc_column.specs.Nested.{child_columns, slot_values}
use Rattle.ipc_column.specs.Slots.{is_null, value_in_slot}
use Rattle.ipc_column.specs.Values.{row}
use Rattle.ipc_conform.proofs.conforming.are_own_numbers.Goals as goal

pub returns-then-are_equal_layouts : goal.returns-then-are_equal_layouts
returns-then-are_equal_layouts c = λ yes i m some.
    let s = c.args.view.now in
    let laid : s.column.layout ≡ l.Null = sym c.layout.ensures.layout ∙ c.are_equal_layouts.ensures c.if-are_equal_layouts.true in
    absurd (true≢false (sym (nothing_shown (row (child_columns s)) s.column i laid) ∙ (sym (ap is_null (slot_is s i m)) ∙ some)))

pub loop-slot-preserved : goal.loop-slot-preserved
loop-slot-preserved c = λ i m.
    let vs = slot_values c.args.view.now in
    let k = c.loop-slot.slot in
    let f = out-Field c.args.field.now in
    let held = value_in_slot (row (child_columns c.args.view.now)) k c.at.result in
    let is : get_or vs k Null ≡ held = get_or_from_slice_get vs k held Null c.at.ensures.value in
    elim (cases_eq i k) as (λ _. is_null (get_or vs i Null) ≡ false
    → FitsOwnType f.kind f.nullable (length f.children) (out-Value (get_or vs i Null))) [
      | inl same ↦ subst (λ (j : ℕ). is_null (get_or vs j Null) ≡ false
          → FitsOwnType f.kind f.nullable (length f.children) (out-Value (get_or vs j Null))) (sym same)
          (subst (λ (v : Value). is_null v ≡ false → FitsOwnType f.kind f.nullable (length f.children) (out-Value v)) (sym is)
          (c.is_own_number.ensures c.if-not-is_own_number.false (row (child_columns c.args.view.now)) k))
      | inr other ↦ c.loop-slot.invariant i (omega (arith, m, other))
    ]

pub returns : goal.returns
returns c = λ yes i m. c.loop-slot.invariant i (omega (arith, m, c.loop-slot-test.false, c.len-slot-end.ensures))
