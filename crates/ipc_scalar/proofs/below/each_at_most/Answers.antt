use Rattle.std.proofs.Common.{◌∙◌, ap, ◌++◌, ◌-◌, ℕ, List, length, arith}
use Rattle.ipc_scalar.proofs.Blocks.{all_numbers, zeros}
use Rattle.ipc_scalar.proofs.below.each_at_most.Goals as goal

pub returns : goal.returns
returns g c =
    let all = all_numbers g.L.Lanes.width g.L.Lanes.count c.args.most c.args.bytes.now c.as_chunks.result.0.now c.pad_block.result
    (64 - length c.as_chunks.result.1.now) g.met.L.Lanes.whole c.requires.even c.as_chunks.ensures.front
    (c.pad_block.ensures ∙ ap (λ (rest : List ℕ). rest ++ zeros (64 - length c.as_chunks.result.1.now)) c.as_chunks.ensures.back) in
    let last = c.of-top.ensures c.args.most in
    let kept = c.loop-block.invariant in (
      λ e.
          let parts = kept.0 (c.are_at_most.ensures.0 e) in
          all.0 (last.0 parts.0, λ j l. parts.1 j (omega (arith, l, c.as_chunks.ensures.front_len))),
      λ h.
          let parts = all.1 h in
          c.are_at_most.ensures.1 (kept.1 (last.1 parts.0, λ j l. parts.1 j (omega (arith, l, c.as_chunks.ensures.front_len)))),
    )
