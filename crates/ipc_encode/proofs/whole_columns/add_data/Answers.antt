use Rattle.std.proofs.Common.{◌≡◌, ◌∙◌, sym, refl, ℕ, ◌*◌, ◌≤◌, arith}
use Rattle.ipc_column.specs.Nested.{Nested}
use Rattle.ipc_encode.proofs.LentBuffers.{offsets_there, truths_there, widths_there}
use Rattle.ipc_encode.proofs.NestedSlots.{list_offsets_there}
use Rattle.ipc_encode.proofs.WrittenBuffers.{last_inside, numbers_there}
use Rattle.ipc_encode.proofs.whole_columns.add_data.Goals as goal

-- ---- the bytes that are lent are there

pub first_bytes-values-requires : goal.first_bytes-values-requires
first_bytes-values-requires c =
    let there = truths_there c.args.view.now c.buffers-buffers.result c.buffers-buffers.ensures
    (c.buffers-buffers.ensures.layout ∙ (sym c.layout.ensures.layout ∙ c.in-Bits.is)) in
    omega (arith, there, c.len-count.ensures, c.div_ceil.ensures)

numbers_long : (s : Nested) (n count width w len : ℕ) → count ≡ n → width ≡ w → w * n ≤ len → width * count ≤ len
numbers_long s n count width w len size wide there = rw (size, wide) there

pub overflow_mul-bytes : goal.overflow_mul-bytes
overflow_mul-bytes c =
    let there = numbers_there c.args.view.now c.buffers-buffers.result c.buffers-buffers.ensures c.in-Numbers.bits c.in-Numbers.signed
    (c.buffers-buffers.ensures.layout ∙ (sym c.layout.ensures.layout ∙ c.in-Numbers.is)) in
    let all = numbers_long c.args.view.now _ c.len-count.result c.bytes.result _ _ c.len-count.ensures c.bytes.ensures there in
    omega (arith, all)

pub first_bytes-values-requires-in-Numbers : goal.first_bytes-values-requires-in-Numbers
first_bytes-values-requires-in-Numbers c =
    numbers_long c.args.view.now _ c.len-count.result c.bytes.result _ _ c.len-count.ensures c.bytes.ensures
    (numbers_there c.args.view.now c.buffers-buffers.result c.buffers-buffers.ensures c.in-Numbers.bits c.in-Numbers.signed
    (c.buffers-buffers.ensures.layout ∙ (sym c.layout.ensures.layout ∙ c.in-Numbers.is)))

pub overflow_mul-width : goal.overflow_mul-width
overflow_mul-width c =
    let there = widths_there c.args.view.now c.buffers-buffers.result c.buffers-buffers.ensures c.in-FixedBytes.width
    (c.buffers-buffers.ensures.layout ∙ (sym c.layout.ensures.layout ∙ c.in-FixedBytes.is)) in
    let all = numbers_long c.args.view.now _ c.len-count.result c.in-FixedBytes.width _ _ c.len-count.ensures refl there in
    omega (arith, all)

pub first_bytes-values-requires-in-FixedBytes : goal.first_bytes-values-requires-in-FixedBytes
first_bytes-values-requires-in-FixedBytes c =
    numbers_long c.args.view.now _ c.len-count.result c.in-FixedBytes.width _ _ c.len-count.ensures refl
    (widths_there c.args.view.now c.buffers-buffers.result c.buffers-buffers.ensures c.in-FixedBytes.width
    (c.buffers-buffers.ensures.layout ∙ (sym c.layout.ensures.layout ∙ c.in-FixedBytes.is)))

pub last_offset-requires : goal.last_offset-requires
last_offset-requires c = λ some.
    let there = offsets_there c.args.view.now c.buffers-buffers.result c.buffers-buffers.ensures c.in-VariableBytes.utf8
    (c.buffers-buffers.ensures.layout ∙ (sym c.layout.ensures.layout ∙ c.in-VariableBytes.is)) (omega (arith, some, c.len-count.ensures)) in
    omega (arith, there, c.len-count.ensures)

pub first_bytes-values-requires-in-VariableBytes : goal.first_bytes-values-requires-in-VariableBytes
first_bytes-values-requires-in-VariableBytes c =
    last_inside c.args.view.now c.buffers-buffers.result c.buffers-buffers.ensures c.in-VariableBytes.utf8
    (c.buffers-buffers.ensures.layout ∙ (sym c.layout.ensures.layout ∙ c.in-VariableBytes.is)) c.last_offset.ensures.bytes
    c.len-count.result c.last_offset.result c.len-count.ensures c.last_offset.ensures.last

pub lent_offsets-requires : goal.lent_offsets-requires
lent_offsets-requires c = λ some.
    let there = offsets_there c.args.view.now c.buffers-buffers.result c.buffers-buffers.ensures c.in-VariableBytes.utf8
    (c.buffers-buffers.ensures.layout ∙ (sym c.layout.ensures.layout ∙ c.in-VariableBytes.is)) (omega (arith, some, c.len-count.ensures)) in
    omega (arith, there, c.len-count.ensures)

pub lent_offsets-requires-in-Lists : goal.lent_offsets-requires-in-Lists
lent_offsets-requires-in-Lists c = λ some.
    let there = list_offsets_there c.args.view.now c.buffers-buffers.result c.buffers-buffers.ensures
    (c.buffers-buffers.ensures.layout ∙ (sym c.layout.ensures.layout ∙ c.in-Lists.is)) (omega (arith, some, c.len-count.ensures)) in
    omega (arith, there, c.len-count.ensures)
