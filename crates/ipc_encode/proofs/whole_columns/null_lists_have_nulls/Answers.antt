use Rattle.std.proofs.Common.{◌≡◌, ◌∙◌, sym, ap, ℕ, ◌+◌, ◌*◌, ◌≤◌, get_or, inl, inr, arith}
use Rattle.std.proofs.Math.Nat.{mul-le-mul_left}
use Rattle.std.proofs.lemmas.Bool.{cases_eq, false≢true}
use Rattle.ipc_model.specs.declared.value.Value.TheVariants.{Null}
use Rattle.ipc_column.specs.Nested.{slot_values}
use Rattle.ipc_column.specs.Values.{is_valid}
use Rattle.ipc_encode.proofs.whole_columns.null_lists_have_nulls.Goals.{else-not-is_valid-via-else-not-is_valid}
use Rattle.ipc_encode.proofs.whole_columns.null_lists_have_nulls.Goals.{else-not-is_valid-via-then-not-is_valid+else-not-are_null}
use Rattle.ipc_encode.proofs.whole_columns.null_lists_have_nulls.Goals as goal

pub overflow_mul-size : goal.overflow_mul-size
overflow_mul-size c =
    let less : c.args.size * (c.loop-slot.slot + 1) ≤ c.args.size * c.args.count =
    mul-le-mul_left c.args.size (omega (arith, c.loop-slot-test.true, c.loop-slot.auto.slot-end)) in
    omega (arith, less, c.requires.few)

pub overflow_mul-size-then-not-is_valid : goal.overflow_mul-size-then-not-is_valid
overflow_mul-size-then-not-is_valid c =
    let less : c.args.size * (c.loop-slot.slot + 1) ≤ c.args.size * c.args.count =
    mul-le-mul_left c.args.size (omega (arith, c.loop-slot-test.true, c.loop-slot.auto.slot-end)) in
    omega (arith, less, c.requires.few)

pub overflow_add-size : goal.overflow_add-size
overflow_add-size c =
    let less : c.args.size * (c.loop-slot.slot + 1) ≤ c.args.size * c.args.count =
    mul-le-mul_left c.args.size (omega (arith, c.loop-slot-test.true, c.loop-slot.auto.slot-end)) in
    omega (arith, less, c.requires.few)

pub are_null-requires : goal.are_null-requires
are_null-requires c =
    let less : c.args.size * (c.loop-slot.slot + 1) ≤ c.args.size * c.args.count =
    mul-le-mul_left c.args.size (omega (arith, c.loop-slot-test.true, c.loop-slot.auto.slot-end)) in
    omega (arith, less, c.requires.slots)

pub loop-slot-preserved : goal.loop-slot-preserved
loop-slot-preserved c = λ i m null j from to.
    let vs = slot_values c.args.child.now in
    let k = c.loop-slot.slot in
    let next : c.args.size * (i + 1) ≡ c.args.size * i + c.args.size = omega arith in
    elim (cases_eq i k) as (λ _. get_or vs j Null ≡ Null) [
      | inl same ↦ elim c.else-not-is_valid.branch [
        | else-not-is_valid-via-then-not-is_valid+else-not-are_null w ↦
            let here = ap (λ (n : ℕ). c.args.size * n) same in
            w.are_null.ensures w.if-not-are_null.false j (omega (arith, from, here)) (omega (arith, to, here, next))
        | else-not-is_valid-via-else-not-is_valid w ↦ absurd (false≢true
            (sym null ∙ (ap (is_valid c.args.marks.now) same ∙ (sym c.is_valid.ensures ∙ w.if-not-is_valid.false))))
      ]
      | inr other ↦ c.loop-slot.invariant i (omega (arith, m, other)) null j from to
    ]

pub returns : goal.returns
returns c = λ yes i m null j from to.
    c.loop-slot.invariant i (omega (arith, m, c.loop-slot-test.false, c.loop-slot.auto.slot-end)) null j from to
