use Rattle.std.proofs.Common.{◌≡◌, ◌∙◌, sym, ap, subst, ℕ, ◌+◌, ◌/◌, List, take, arith}
use Rattle.ipc_scalar.specs.Bytes.{bit}
use Rattle.ipc_encode.specs.Bitmaps.{bitmap}
use Rattle.ipc_column.specs.Nested.{slot_values}
use Rattle.ipc_encode.proofs.LentBuffers.{marked_count}
use Rattle.ipc_encode.proofs.WrittenBuffers.{marked_long, marked_written}
use Rattle.ipc_encode.proofs.canonical.has_written_validity.Goals as goal

pub unused_bits_are_zeros-requires : goal.unused_bits_are_zeros-requires
unused_bits_are_zeros-requires c =
    let long = marked_long c.args.view.now c.buffers.result c.buffers.ensures c.null_count.result c.null_count.ensures.without_bitmap
    (omega (arith, c.if-null_count-eq0.false)) in
    omega (arith, long, c.len.ensures)

pub returns-then-null_count-eq0 : goal.returns-then-null_count-eq0
returns-then-null_count-eq0 c = λ _ marks some.
    let s = c.args.view.now in
    let none = marked_count s.column.validity (slot_values s) c.null_count.result marks c.null_count.ensures.with_bitmap
    c.null_count.ensures.without_bitmap in
    absurd (omega (arith, some, none, c.if-null_count-eq0.true))

pub returns-else-null_count-eq0 : goal.returns-else-null_count-eq0
returns-else-null_count-eq0 c = λ clear marks some.
    marked_written c.args.view.now marks some (λ flags size same.
    subst (λ (n : ℕ). take ((n + 7) / 8) c.args.view.now.column.validity ≡ bitmap flags) c.len.ensures
    (subst (λ (bs : List ℕ). take ((c.len.result + 7) / 8) bs ≡ bitmap flags) c.buffers.ensures.validity
    (c.unused_bits_are_zeros.ensures clear flags (size ∙ sym c.len.ensures) (λ i m.
    ap (λ (bs : List ℕ). bit bs i) c.buffers.ensures.validity ∙ same i (omega (arith, m, c.len.ensures))))))
