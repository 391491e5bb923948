use Rattle.std.proofs.Common.{◌∙◌, sym, ap, ◌++◌, arith}
use Rattle.std.proofs.lemmas.List.{take_all}
use Rattle.ipc_encode.specs.Segments.{bytes_of_segments}
use Rattle.ipc_encode.proofs.SegmentColumns.{joined_next}
use Rattle.ipc_encode.proofs.parts.join.Goals as goal

pub loop-segment-preserved : goal.loop-segment-preserved
loop-segment-preserved c =
    c.in_ok-extend_from_slice.ensures.items ∙ ((λ i. c.loop-segment.invariant i ++ c.as_bytes.ensures i)
    ∙ sym (joined_next c.args.segments.now c.loop-segment.segment-index c.segment-item.result c.loop-segment-test.true c.segment-item.is))

pub returns : goal.returns
returns c = c.loop-segment.invariant
    ∙ ap bytes_of_segments (take_all c.loop-segment.segment-index c.args.segments.now (omega (arith, c.loop-segment-test.false)))
