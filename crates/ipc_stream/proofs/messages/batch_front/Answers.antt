use Rattle.std.proofs.Common.{◌≡◌, ◌∙◌, ◌++◌, sym, ap, subst, List, ℕ, length, ◌≤◌, of_z, arith}
use Rattle.std.specs.Prelude.{pos, ℤ}
use Rattle.std.specs.Int.{w64, cast_signed}
use Rattle.std.proofs.lemmas.Result.{IfOk-weaker}
use Rattle.ipc_meta.specs.declared.head.Head.TheVariants as h
use Rattle.ipc_meta.specs.declared.head.BatchHead.{BatchHead}
use Rattle.ipc_meta.specs.Heads.{HeadOf}
use Rattle.ipc_frame.specs.Written.{padded_metadata}
use Rattle.ipc_frame.proofs.Written.{length-padded_metadata}
use Rattle.ipc_stream.proofs.MessagesWritten.{tells, few_slots, signed_count}
use Rattle.ipc_stream.proofs.messages.batch_front.Goals as goal

pub returns-clause-message : goal.returns-clause-message
returns-clause-message c = λ m s values body size found.
    let pairs = c.args.pairs.now in
    let of_length : ℤ → BatchHead = λ z. record { length = z; nodes = c.args.nodes; buffers = c.args.buffers } in
    let states = subst (λ (m : List ℕ). (rest : List ℕ)
    → HeadOf c.args.limits.now (m ++ rest) (h.Batch (of_length (cast_signed w64 (of_z w64 c.cast_signed.result))) pairs) c.args.len)
    (sym c.deref.ensures.value) c.in_ok-meta.ensures.states in
    let short : length (padded_metadata c.deref.result.now) ≤ c.args.limits.now.metadata =
    omega (arith, length-padded_metadata c.deref.result.now, ap length c.deref.ensures.value, c.in_ok-meta.ensures.short) in
    let count = signed_count c.args.count (few_slots c.args.limits.now c.args.count found.lengths.batch) in
    let signed : cast_signed w64 (of_z w64 c.cast_signed.result) ≡ pos c.args.count =
    ap (λ (z : ℤ). cast_signed w64 (of_z w64 z)) (c.cast_signed.ensures ∙ count) ∙ count in
    let report = subst (λ (n : ℕ). (rest : List ℕ)
    → HeadOf c.args.limits.now (c.deref.result.now ++ rest) (h.Batch (of_length (pos c.args.count)) pairs) n)
    (sym size)
    (subst (λ (z : ℤ). (rest : List ℕ) → HeadOf c.args.limits.now (c.deref.result.now ++ rest) (h.Batch (of_length z) pairs) c.args.len)
    signed states) in
    IfOk-weaker c.front.result _ _
    (λ front framed o same in_force. tells c.deref.result.now body _ (λ head stated. framed c.args.limits.now head body short stated)
    m s (of_length (pos c.args.count)) (record { pairs = pairs; rows = values }) report found o same in_force)
    c.front.ensures.framed
