use Rattle.std.proofs.Common.{◌≡◌, ◌∙◌, sym, subst, ℕ, ◌<◌, length, get_or, inl, inr, arith}
use Rattle.std.specs.List.{AllByRecursion}
use Rattle.std.proofs.lemmas.Bool.{cases_eq}
use Rattle.std.proofs.lemmas.Option.{slice_get-get_or}
use Rattle.ipc_model.specs.declared.layout.Layout.{Layout}
use Rattle.ipc_model.specs.declared.value.Value.TheVariants.{Null}
use Rattle.ipc_column.proofs.SlotValues.{null_only}
use Rattle.ipc_column.specs.Nested.{slot_values}
use Rattle.ipc_column.specs.checks.Plain.{IsShownBy}
use Rattle.ipc_encode.proofs.NestedSlots.{null_each}
use Rattle.ipc_encode.proofs.whole_columns.are_null.Goals as goal

pub returns-in-Null : goal.returns-in-Null
returns-in-Null c = λ yes j from m.
    let vs = slot_values c.args.view.now in
    null_each vs j (subst (λ (x : Layout). AllByRecursion (IsShownBy x) vs) c.in-Null.is c.layout.ensures.values)

pub loop-slot-preserved : goal.loop-slot-preserved
loop-slot-preserved c = λ j from m.
    let vs = slot_values c.args.view.now in
    let k = c.loop-slot.slot in
    let inside : k < length vs = omega (arith, c.loop-slot-test.true, c.loop-slot.auto.slot-end, c.requires) in
    elim (cases_eq j k) as (λ _. get_or vs j Null ≡ Null) [
      | inl same ↦ subst (λ (i : ℕ). get_or vs i Null ≡ Null) (sym same)
          (null_only (get_or vs k Null)
          (sym (c.is_null.ensures (get_or vs k Null) (slice_get-get_or vs k Null inside)) ∙ c.if-not-is_null.false))
      | inr other ↦ c.loop-slot.invariant j from (omega (arith, m, other))
    ]

pub returns : goal.returns
returns c = λ yes j from m. c.loop-slot.invariant j from (omega (arith, m, c.loop-slot-test.false))
