use Rattle.std.proofs.Common.{◌≡◌, ◌∙◌, refl, sym, ap, ℕ, Bool, List, [], ◌∷◌, ◌++◌, length, arith}
use Rattle.std.proofs.lemmas.Result.{err_from_is_err_and}
use Rattle.ipc_model.specs.declared.layout.Layout.TheVariants as l
use Rattle.ipc_encode.specs.Bitmaps.{bitmap}
use Rattle.ipc_encode.specs.Cells.{flags, slot_bytes}
use Rattle.ipc_encode.specs.Pieces.{Fixed, Number, True}
use Rattle.ipc_encode.proofs.Bits.{flags_length}
use Rattle.ipc_encode.proofs.Sizes.{fixed_data}
use Rattle.ipc_encode.proofs.Steps.{amount_more, flags_push, slots_push}
use Rattle.ipc_encode.proofs.column.ColumnData.push.Goals as goal

pub returns-in_ok-push_bit-in-Bits-clause-pushed : goal.returns-in_ok-push_bit-in-Bits-clause-pushed
returns-in_ok-push_bit-in-Bits-clause-pushed g c = λ vs h size.
    let packed : c.in-Bits.bits.items ≡ bitmap (flags True vs) = rw c.in-Bits.is at h in
    c.in_ok-push_bit-in-Bits.ensures (flags True vs) (flags_length True vs ∙ size) packed
    ∙ (ap (λ (b : Bool). bitmap (flags True vs ++ b ∷ [])) c.is_true.ensures ∙ ap bitmap (sym (flags_push True vs c.args.value.now)))

pub returns-in_ok-push_number-in-Numbers-clause-pushed : goal.returns-in_ok-push_number-in-Numbers-clause-pushed
returns-in_ok-push_number-in-Numbers-clause-pushed g c = λ vs h size.
    let which = Number c.in-Numbers.bits in
    c.in_ok-push_number-in-Numbers.ensures ∙ (ap (λ (bs : List ℕ). bs ++ slot_bytes which c.args.value.now) (rw c.in-Numbers.is at h)
    ∙ sym (slots_push which vs c.args.value.now))

pub returns-in_err-check_amount-in-FixedBytes-clause-refused : goal.returns-in_err-check_amount-in-FixedBytes-clause-refused
returns-in_err-check_amount-in-FixedBytes-clause-refused g c = λ vs h count.
    let width = c.in-FixedBytes.width in
    let same = rw c.in-FixedBytes.is at h in
    let size = ap (λ (bs : List ℕ). length bs) same ∙ fixed_data width vs in
    let more = amount_more (l.FixedBytes width) vs c.args.value.now _ width size refl in
    let p = err_from_is_err_and c.from_residual-in_err-check_amount-in-FixedBytes.result
    c.from_residual-in_err-check_amount-in-FixedBytes.ensures.1 in
    rw (p.1, p.2, c.in-FixedBytes.is) (c.in_err-check_amount-in-FixedBytes.ensures.refused (vs ++ c.args.value.now ∷ [])
    (omega (arith, more, c.len.ensures, c.in-FixedBytes.values.ok)))

pub returns-in_ok-push_fixed-in-FixedBytes-clause-pushed : goal.returns-in_ok-push_fixed-in-FixedBytes-clause-pushed
returns-in_ok-push_fixed-in-FixedBytes-clause-pushed g c = λ vs h size.
    let which = Fixed c.in-FixedBytes.width in
    c.in_ok-push_fixed-in-FixedBytes.ensures ∙ (ap (λ (bs : List ℕ). bs ++ slot_bytes which c.args.value.now)
    (rw c.in-FixedBytes.is at h) ∙ sym (slots_push which vs c.args.value.now))

pub returns-in_ok-push_fixed-in-FixedBytes-clause-bytes : goal.returns-in_ok-push_fixed-in-FixedBytes-clause-bytes
returns-in_ok-push_fixed-in-FixedBytes-clause-bytes g c = λ vs h.
    let width = c.in-FixedBytes.width in
    let same = rw c.in-FixedBytes.is at h in
    let size = ap (λ (bs : List ℕ). length bs) same ∙ fixed_data width vs in
    let more = amount_more (l.FixedBytes width) vs c.args.value.now _ width size refl in
    rw c.in-FixedBytes.is (omega (arith, more, c.len.ensures, c.in-FixedBytes.values.ok, c.in_ok-check_amount-in-FixedBytes.ensures.bytes))
