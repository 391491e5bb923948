use Rattle.std.proofs.Common.{◌≡◌, ◌∙◌, refl, true, false, sym, ap, subst, ◌++◌, ℕ, Bool, cond, [], ◌∷◌, length-append, arith}
use Rattle.std.proofs.lemmas.Result.{err_from_is_err_and}
use Rattle.std.specs.Prelude.{◌&&◌}
use Rattle.ipc_model.specs.Layouts.{has_validity}
use Rattle.ipc_model.specs.declared.layout.Layout.{Layout}
use Rattle.ipc_encode.specs.Built.{AreBytesWithin}
use Rattle.ipc_encode.specs.Cells.{is_set}
use Rattle.ipc_encode.specs.Columns.{data_in}
use Rattle.ipc_encode.specs.Pieces.{Valid}
use Rattle.ipc_encode.proofs.Steps.{one_null}
use Rattle.ipc_encode.proofs.column.ColumnBuilder.push.Goals as goal

both_true : (a b : Bool) → (a && b) ≡ true → (a ≡ true) × (b ≡ true)
both_true true b e = (refl, e)
both_true false b e = absurd cc

pub returns-clause-pushed : goal.returns-clause-pushed
returns-clause-pushed g c = λ layout values h.
    let size = length-append values (c.args.value.now ∷ []) in
    let both = both_true _ _ (sym c.has_valid_slot.ensures ∙ c.if-not-has_valid_slot.false) in
    let marked = sym both.0 ∙ (c.has_validity.ensures ∙ ap has_validity h.laid) in
    let null = ap (λ (b : Bool). cond {A = ℕ} (b && is_set Valid c.args.value.now) 0 1) (sym marked)
    ∙ ap (λ (b : Bool). cond {A = ℕ} b 0 1) both.1 in
    record {
      laid = c.in_ok-push.ensures.layout ∙ h.laid;
      slots_are = omega (arith, size, h.slots_are);
      nulls_are = omega (arith, one_null layout values c.args.value.now, h.nulls_are, null);
      few = λ many. omega (arith, size, h.slots_are, many, c.if-slots-limits.false);
      short = subst (λ (l : Layout). AreBytesWithin c.args.limits.now l (data_in l (values ++ c.args.value.now ∷ []))) h.laid
          (c.in_ok-push.ensures.bytes values h.holds);
      validity_are = c.in_ok-push_validity.ensures layout values c.args.value.now marked (sym h.slots_are) (sym h.nulls_are)
          (sym both.1) h.validity_are;
      holds = c.in_ok-push.ensures.pushed values h.holds (sym h.slots_are);
    }

pub returns-in_err-push-clause-kept : goal.returns-in_err-push-clause-kept
returns-in_err-push-clause-kept g c = λ layout values h.
    let p = err_from_is_err_and c.from_residual.result c.from_residual.ensures.1 in
    rw (p.1, p.2) (λ other. record {
      laid = c.in_err-push.ensures.layout ∙ h.laid;
      slots_are = h.slots_are;
      nulls_are = h.nulls_are;
      few = h.few;
      short = h.short;
      validity_are = h.validity_are;
      holds = c.in_err-push.ensures.kept values h.holds other;
    })
