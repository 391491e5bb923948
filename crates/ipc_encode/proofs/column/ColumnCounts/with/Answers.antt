use Rattle.std.proofs.Common.{◌∙◌, sym, ap, subst, ℕ, Bool, cond, ◌++◌, [], ◌∷◌, length-append, arith}
use Rattle.std.specs.Prelude.{◌&&◌}
use Rattle.std.proofs.lemmas.Result.{err_from_is_err_and}
use Rattle.ipc_encode.specs.Columns.{ExceedsOffsets}
use Rattle.ipc_encode.specs.Cells.{is_set}
use Rattle.ipc_encode.specs.Pieces.{Valid}
use Rattle.ipc_encode.proofs.Steps.{one_null, amount_more}
use Rattle.ipc_encode.proofs.Sizes.{long_from}
use Rattle.ipc_encode.proofs.column.ColumnCounts.with.Goals as goal

pub returns-in_err-check_amount-clause-refused : goal.returns-in_err-check_amount-clause-refused
returns-in_err-check_amount-clause-refused c = λ values h.
    let amount = amount_more c.args.layout values c.args.value.now c.args.self.amount c.value_len.result h.amount_is
    c.value_len.ensures.is in
    let p = err_from_is_err_and c.from_residual.result c.from_residual.ensures.1 in
    rw (p.1, p.2) (c.in_err-check_amount.ensures.refused (values ++ c.args.value.now ∷ []) (sym amount))

pub returns-clause-counted : goal.returns-clause-counted
returns-clause-counted c = λ values h.
    let amount = amount_more c.args.layout values c.args.value.now c.args.self.amount c.value_len.result h.amount_is
    c.value_len.ensures.is in
    let size = length-append values (c.args.value.now ∷ []) in
    let null = c.null_slots.ensures.count
    ∙ ap (λ (b : Bool). cond {A = ℕ} (b && is_set Valid c.args.value.now) 0 1) c.has_validity.ensures in
    record {
      slots_are = omega (arith, size, h.slots_are);
      nulls_are = omega (arith, one_null c.args.layout values c.args.value.now, h.nulls_are, null);
      amount_is = amount;
      few = λ many. omega (arith, size, h.slots_are, many, c.if-self-limits.false);
      short = λ long. c.in_ok-check_amount.ensures.within
          (subst (λ (n : ℕ). ExceedsOffsets c.args.layout n) (sym amount) (long_from c.args.layout
          (values ++ c.args.value.now ∷ []) long));
    }
