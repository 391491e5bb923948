use Rattle.std.proofs.Common.{arith, inl, inr, subst}
use Rattle.ipc_encode.specs.Segments.{bytes_of_segments}
use Rattle.ipc_stream.specs.Canonical.{Replaces}
use Rattle.ipc_stream.proofs.CanonicalCopies.{parts_copied, parts_kept}
use Rattle.ipc_stream.proofs.Replaced.{flat_length}
use Rattle.ipc_stream.proofs.canonical.copy_parts.Goals.{else-size-bytes-via-else-size-bytes}
use Rattle.ipc_stream.proofs.canonical.copy_parts.Goals.{else-size-bytes-via-then-size-bytes+else-size-numbers}
use Rattle.ipc_stream.proofs.canonical.copy_parts.Goals as goal

pub put_pairs-requires : goal.put_pairs-requires
put_pairs-requires c = omega (arith, flat_length c.as_slice-nodes.result.now, c.if-size-numbers.true)

pub put_pairs-requires-then-size-numbers : goal.put_pairs-requires-then-size-numbers
put_pairs-requires-then-size-numbers c = let h = c.put_pairs.auto.target in
    omega (arith, flat_length c.as_slice-buffers.result.now, c.if-size-numbers.true, h)

pub returns-then-size-numbers : goal.returns-then-size-numbers
returns-then-size-numbers c = parts_copied c.args.parts.now c.as_slice-nodes.result.now c.as_slice-buffers.result.now c.args.bytes.now
    c.put_segments.new.target c.args.numbers.now c.put_pairs.new.target c.put_pairs-then-size-numbers.new.target c.as_slice-nodes.ensures
    c.as_slice-buffers.ensures c.requires c.if-size-bytes.true c.if-size-numbers.true
    (subst (λ xs. Replaces 0 (bytes_of_segments xs) c.args.bytes.now c.put_segments.new.target) c.deref.ensures.value
    c.put_segments.ensures)
    c.put_pairs.ensures c.put_pairs-then-size-numbers.ensures

pub returns-else-size-bytes : goal.returns-else-size-bytes
returns-else-size-bytes c = parts_kept c.args.parts.now c.as_slice-nodes.result.now c.as_slice-buffers.result.now c.args.bytes.now
    c.args.numbers.now c.as_slice-nodes.ensures c.as_slice-buffers.ensures c.requires
    (elim c.else-size-bytes.branch [
      | else-size-bytes-via-then-size-bytes+else-size-numbers w ↦ inr w.if-size-numbers.false
      | else-size-bytes-via-else-size-bytes w ↦ inl w.if-size-bytes.false
    ])
