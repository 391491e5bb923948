use Rattle.std.proofs.Common.{◌≡◌, ◌∙◌, sym, subst, ℕ, ◌+◌, ◌*◌, ◌/◌, length, take, drop, replicate, arith}
use Rattle.ipc_model.specs.declared.layout.Layout.TheVariants as l
use Rattle.ipc_column.specs.Nested.{slot_values}
use Rattle.ipc_encode.specs.Bitmaps.{bitmap}
use Rattle.ipc_encode.specs.Cells.{flags}
use Rattle.ipc_encode.specs.Pieces.{True}
use Rattle.ipc_encode.proofs.Bits.{flags_length}
use Rattle.ipc_encode.proofs.LentBuffers.{bits_enough, buffers_bits, offsets_there, truths_lent, truths_there, widths_lent, widths_there}
use Rattle.ipc_encode.proofs.Sizes.{long_from}
use Rattle.ipc_encode.proofs.WrittenBuffers.{bits_written, contents_few, contents_written, lists_written, no_contents, numbers_there}
use Rattle.ipc_encode.proofs.WrittenBuffers.{numbers_written, short_as, widths_written, written_as}
use Rattle.ipc_encode.proofs.canonical.has_written_data.Goals as goal

-- ---- bits

pub unused_bits_are_zeros-requires : goal.unused_bits_are_zeros-requires
unused_bits_are_zeros-requires c =
    let laid = c.buffers-buffers.ensures.layout ∙ (sym c.layout.ensures.layout ∙ c.in-Bits.is) in
    let there = truths_there c.args.view.now c.buffers-buffers.result c.buffers-buffers.ensures laid in
    omega (arith, there, c.len-count.ensures)

pub valid_are_among-requires-clause-few : goal.valid_are_among-requires-clause-few
valid_are_among-requires-clause-few c =
    let laid = c.buffers-buffers.ensures.layout ∙ (sym c.layout.ensures.layout ∙ c.in-Bits.is) in
    let there = truths_there c.args.view.now c.buffers-buffers.result c.buffers-buffers.ensures laid in
    bits_enough c.len-count.result (length c.buffers-buffers.result.values.now) (omega (arith, there, c.len-count.ensures))

pub valid_are_among-requires-clause-many : goal.valid_are_among-requires-clause-many
valid_are_among-requires-clause-many c =
    buffers_bits c.args.view.now c.buffers-buffers.result c.buffers-buffers.ensures c.len-count.result c.len-count.ensures

pub returns-then-unused_bits_are_zeros-clause-lent : goal.returns-then-unused_bits_are_zeros-clause-lent
returns-then-unused_bits_are_zeros-clause-lent c = λ among.
    let s = c.args.view.now in
    let b = c.buffers-buffers.result in
    let h = c.buffers-buffers.ensures in
    let size = c.len-count.ensures in
    let laid = h.layout ∙ (sym c.layout.ensures.layout ∙ c.in-Bits.is) in
    let values = slot_values s in
    bits_written s b h laid
    (subst (λ (n : ℕ). take ((n + 7) / 8) b.values.now ≡ bitmap (flags True values)) size
    (c.unused_bits_are_zeros.ensures c.if-unused_bits_are_zeros.true (flags True values) (flags_length True values ∙ sym size)
    (λ i m. truths_lent s b h laid (λ k n. c.valid_are_among.ensures among k (omega (arith, n, size))) i (omega (arith, m, size)))))

-- ---- numbers and values of a fixed width

pub null_slots_are_zeros-requires-clause-bits : goal.null_slots_are_zeros-requires-clause-bits
null_slots_are_zeros-requires-clause-bits c =
    buffers_bits c.args.view.now c.buffers-buffers.result c.buffers-buffers.ensures c.len-count.result c.len-count.ensures

pub null_slots_are_zeros-requires-clause-bytes : goal.null_slots_are_zeros-requires-clause-bytes
null_slots_are_zeros-requires-clause-bytes c =
    rw (c.bytes.ensures, c.len-count.ensures) (numbers_there c.args.view.now c.buffers-buffers.result c.buffers-buffers.ensures
    c.in-Numbers.bits c.in-Numbers.signed (c.buffers-buffers.ensures.layout ∙ (sym c.layout.ensures.layout ∙ c.in-Numbers.is)))

pub returns-in-Numbers-clause-lent : goal.returns-in-Numbers-clause-lent
returns-in-Numbers-clause-lent c = λ zeros.
    let b = c.buffers-buffers.result in
    numbers_written c.args.view.now b c.buffers-buffers.ensures c.in-Numbers.bits c.in-Numbers.signed
    (c.buffers-buffers.ensures.layout ∙ (sym c.layout.ensures.layout ∙ c.in-Numbers.is)) c.null_slots_are_zeros.ensures.bytes
    (λ i m e. subst (λ (w : ℕ). take w (drop (w * i) b.values.now) ≡ replicate w 0) c.bytes.ensures
    (c.null_slots_are_zeros.ensures.zeros zeros i (omega (arith, m, c.len-count.ensures)) e))

pub null_slots_are_zeros-requires-in-FixedBytes-clause-bits : goal.null_slots_are_zeros-requires-in-FixedBytes-clause-bits
null_slots_are_zeros-requires-in-FixedBytes-clause-bits c =
    buffers_bits c.args.view.now c.buffers-buffers.result c.buffers-buffers.ensures c.len-count.result c.len-count.ensures

pub null_slots_are_zeros-requires-in-FixedBytes-clause-bytes : goal.null_slots_are_zeros-requires-in-FixedBytes-clause-bytes
null_slots_are_zeros-requires-in-FixedBytes-clause-bytes c =
    rw c.len-count.ensures (widths_there c.args.view.now c.buffers-buffers.result c.buffers-buffers.ensures c.in-FixedBytes.width
    (c.buffers-buffers.ensures.layout ∙ (sym c.layout.ensures.layout ∙ c.in-FixedBytes.is)))

pub returns-in-FixedBytes-clause-lent : goal.returns-in-FixedBytes-clause-lent
returns-in-FixedBytes-clause-lent c = λ zeros.
    let laid = c.buffers-buffers.ensures.layout ∙ (sym c.layout.ensures.layout ∙ c.in-FixedBytes.is) in
    widths_written c.args.view.now c.buffers-buffers.result c.buffers-buffers.ensures c.in-FixedBytes.width laid
    (widths_lent c.args.view.now c.buffers-buffers.result c.buffers-buffers.ensures c.in-FixedBytes.width laid
    (λ i m e. c.null_slots_are_zeros-in-FixedBytes.ensures.zeros zeros i (omega (arith, m, c.len-count.ensures)) e))

-- ---- binary values and texts

pub nulls_are_empty-requires-clause-bits : goal.nulls_are_empty-requires-clause-bits
nulls_are_empty-requires-clause-bits c =
    buffers_bits c.args.view.now c.buffers-buffers.result c.buffers-buffers.ensures c.len-count.result c.len-count.ensures

pub nulls_are_empty-requires-clause-offsets : goal.nulls_are_empty-requires-clause-offsets
nulls_are_empty-requires-clause-offsets c =
    let there = offsets_there c.args.view.now c.buffers-buffers.result c.buffers-buffers.ensures c.in-VariableBytes.utf8
    (c.buffers-buffers.ensures.layout ∙ (sym c.layout.ensures.layout ∙ c.in-VariableBytes.is))
    (omega (arith, c.if-count-eq0.false, c.len-count.ensures)) in
    omega (arith, there, c.len-count.ensures)

pub offset_at-requires : goal.offset_at-requires
offset_at-requires c =
    let there = offsets_there c.args.view.now c.buffers-buffers.result c.buffers-buffers.ensures c.in-VariableBytes.utf8
    (c.buffers-buffers.ensures.layout ∙ (sym c.layout.ensures.layout ∙ c.in-VariableBytes.is))
    (omega (arith, c.if-count-eq0.false, c.len-count.ensures)) in
    omega (arith, there, c.len-count.ensures)

pub returns-then-count-eq0-clause-lent : goal.returns-then-count-eq0-clause-lent
returns-then-count-eq0-clause-lent c = λ _.
    written_as c.args.view.now (l.VariableBytes c.in-VariableBytes.utf8) (sym c.layout.ensures.layout ∙ c.in-VariableBytes.is)
    (no_contents c.args.view.now c.in-VariableBytes.utf8 (sym c.len-count.ensures ∙ c.if-count-eq0.true))

pub returns-then-offset_at-eq0-clause-lent : goal.returns-then-offset_at-eq0-clause-lent
returns-then-offset_at-eq0-clause-lent c = λ empty.
    contents_written c.args.view.now c.buffers-buffers.result c.buffers-buffers.ensures c.in-VariableBytes.utf8
    (c.buffers-buffers.ensures.layout ∙ (sym c.layout.ensures.layout ∙ c.in-VariableBytes.is))
    (omega (arith, c.if-count-eq0.false, c.len-count.ensures)) c.nulls_are_empty.ensures.bytes
    (λ i m. c.nulls_are_empty.ensures.empty empty i (omega (arith, m, c.len-count.ensures)))
    (sym c.offset_at.ensures ∙ c.if-offset_at-eq0.true)

pub returns-then-offset_at-eq0-clause-short : goal.returns-then-offset_at-eq0-clause-short
returns-then-offset_at-eq0-clause-short c = λ empty.
    contents_few c.args.view.now c.buffers-buffers.result c.buffers-buffers.ensures c.in-VariableBytes.utf8
    (c.buffers-buffers.ensures.layout ∙ (sym c.layout.ensures.layout ∙ c.in-VariableBytes.is))
    (omega (arith, c.if-count-eq0.false, c.len-count.ensures)) c.nulls_are_empty.ensures.bytes
    (λ i m. c.nulls_are_empty.ensures.empty empty i (omega (arith, m, c.len-count.ensures)))
    (sym c.offset_at.ensures ∙ c.if-offset_at-eq0.true)

-- ---- lists

pub returns-in-Lists-clause-lent : goal.returns-in-Lists-clause-lent
returns-in-Lists-clause-lent c = λ all.
    lists_written c.args.view.now (sym c.layout.ensures.layout ∙ c.in-Lists.is) (c.lists_use_all_items.ensures all)

pub returns-in-Lists-clause-short : goal.returns-in-Lists-clause-short
returns-in-Lists-clause-short c = λ all.
    short_as c.args.view.now l.Lists (sym c.layout.ensures.layout ∙ c.in-Lists.is) (λ long.
    let more = long_from l.Lists (slot_values c.args.view.now) long in
    let few = (c.lists_use_all_items.ensures all).few in
    omega (arith, more, few))
