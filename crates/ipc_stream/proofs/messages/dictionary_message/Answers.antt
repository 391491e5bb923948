use Rattle.std.proofs.Common.{◌≡◌, ◌∙◌, ◌++◌, sym, ap, subst, List, ℕ, length, ◌≤◌, of_z, arith}
use Rattle.std.specs.Prelude.{pos, ℤ}
use Rattle.std.specs.Int.{w64, cast_signed}
use Rattle.std.proofs.lemmas.Int.{to_z-of_z}
use Rattle.ipc_meta.specs.declared.head.Head.TheVariants as h
use Rattle.ipc_meta.specs.declared.head.BatchHead.{BatchHead}
use Rattle.ipc_meta.specs.Heads.{HeadOf}
use Rattle.ipc_frame.specs.Written.{padded_metadata}
use Rattle.ipc_frame.proofs.Written.{length-padded_metadata}
use Rattle.ipc_stream.proofs.MessagesWritten.{sets_rows, few_slots, signed_count}
use Rattle.ipc_stream.proofs.messages.dictionary_message.Goals as goal

pub returns-clause-sets : goal.returns-clause-sets
returns-clause-sets c = λ s named fine fit one within.
    let parts = c.in_ok-nodes.field-0 in
    let rows = c.args.rows.now in
    let found = c.in_ok-nodes.ensures.rows fine fit one within in
    let of_length : ℤ → BatchHead = λ z. record { length = z; nodes = parts.nodes; buffers = parts.buffers } in
    let len = length c.as_slice.result.now in
    let size : len ≡ length parts.body.items = ap length c.as_slice.ensures.value in
    let own = subst (λ (z : ℤ). (rest : List ℕ) → HeadOf c.args.limits.now (c.in_ok-meta.meta.items ++ rest)
    (h.Dictionary z (of_length (cast_signed w64 (of_z w64 c.cast_signed.result)))) len)
    (to_z-of_z w64 c.args.id c.ranges.id) c.in_ok-meta.ensures.states in
    let states = subst (λ (m : List ℕ). (rest : List ℕ)
    → HeadOf c.args.limits.now (m ++ rest) (h.Dictionary c.args.id (of_length (cast_signed w64 (of_z w64 c.cast_signed.result)))) len)
    (sym c.deref.ensures.value) own in
    let short : length (padded_metadata c.deref.result.now) ≤ c.args.limits.now.metadata =
    omega (arith, length-padded_metadata c.deref.result.now, ap length c.deref.ensures.value, c.in_ok-meta.ensures.short) in
    let count = signed_count (length rows) (few_slots c.args.limits.now (length rows) found.lengths.batch) in
    let signed : cast_signed w64 (of_z w64 c.cast_signed.result) ≡ pos (length rows) =
    ap (λ (z : ℤ). cast_signed w64 (of_z w64 z)) (c.cast_signed.ensures ∙ count) ∙ count in
    sets_rows c.deref.result.now parts.body.items _
    (λ head stated. c.in_ok-front.ensures.framed c.args.limits.now head parts.body.items short stated)
    c.args.id s c.args.columns.now (of_length (pos (length rows))) rows
    (subst (λ (n : ℕ). (rest : List ℕ)
    → HeadOf c.args.limits.now (c.deref.result.now ++ rest) (h.Dictionary c.args.id (of_length (pos (length rows)))) n)
    size
    (subst (λ (z : ℤ). (rest : List ℕ)
    → HeadOf c.args.limits.now (c.deref.result.now ++ rest) (h.Dictionary c.args.id (of_length z)) len)
    signed states))
    named found
