use Rattle.std.proofs.Common.{◌≡◌, ◌∙◌, sym, ap, ℕ, ◌-◌, ◌++◌, true, arith}
use Rattle.std.specs.Prelude.{min}
use Rattle.ipc_model.specs.Layouts.{has_validity}
use Rattle.ipc_encode.proofs.FirstSlots.{nulls_cut}
use Rattle.ipc_encode.proofs.Steps.{has_bitmap, marked_nulls}
use Rattle.ipc_encode.proofs.column.ColumnBuilder.nulls_before.Goals as goal

pub returns-clause-count : goal.returns-clause-count
returns-clause-count c = λ known limits layout vs ws size h.
    let some : has_validity layout ≡ true =
    sym (ap has_validity h.laid) ∙ (sym c.has_validity.ensures ∙ c.if-not-has_validity.false) in
    let marks = c.deref.ensures.value ∙ (h.validity_are ∙ has_bitmap layout (vs ++ ws) some) in
    let counted = h.nulls_are ∙ marked_nulls layout (vs ++ ws) some in
    let kept = nulls_cut vs ws c.deref.result.now c.args.slots c.min-marked.result c.clear_between-dropped.result marks size
    (λ there. omega (arith, there, c.min-marked.ensures, c.saturating_mul.ensures, c.len.ensures, c.deref.ensures.len, h.slots_are))
    c.clear_between-dropped.ensures in
    c.min.ensures ∙ (ap (λ (n : ℕ). min n c.args.slots) (c.saturating_sub.ensures
    ∙ ap (λ (n : ℕ). n - c.clear_between-dropped.result) counted) ∙ (kept ∙ sym (marked_nulls layout vs some)))
