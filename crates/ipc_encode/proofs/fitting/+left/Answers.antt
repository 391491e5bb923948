use Rattle.std.proofs.Common.{◌≡◌, ◌∙◌, refl, sym, subst, ℕ, ◌+◌, List, length, add-one, arith}
use Rattle.std.proofs.lemmas.Option.{IfSome_then}
use Rattle.ipc_model.specs.declared.layout.Layout.{Layout}
use Rattle.ipc_column.specs.Shapes.{Shape, bare}
use Rattle.ipc_encode.specs.declared.tree.Node.{Node}
use Rattle.ipc_encode.specs.Buffers.{child_values, padded_bytes, buffers_of, column_buffers}
use Rattle.ipc_encode.specs.declared.column.ColumnCounts.{ColumnCounts}
use Rattle.ipc_encode.specs.Built.{AreNodes, IsNode, IsColumn, AreCountsOf}
use Rattle.ipc_model.specs.declared.limits.Limits.{Limits}
use Rattle.ipc_model.specs.declared.value.Value.{Value}
use Rattle.ipc_encode.proofs.Growing.{parts_length, at_node, first_all, bytes_next, past_next}
use Rattle.ipc_encode.proofs.fitting.+left.Goals as goal

-- what a column's own buffers take
own_bytes : (limits : Limits) (own layout : Layout) (values : List Value) (counts : ColumnCounts) (len : ℕ) → own ≡ layout
    → AreCountsOf limits layout values counts
    → (AreCountsOf limits own values counts → len ≡ length (padded_bytes (column_buffers own values)))
    → len ≡ length (padded_bytes (column_buffers layout values))
own_bytes limits own layout values counts len same counted is =
    subst (λ (l : Layout). AreCountsOf limits l values counts → len ≡ length (padded_bytes (column_buffers l values))) same is counted

pub remaining-returns-then-len-bytes-clause-none : goal.remaining-returns-then-len-bytes-clause-none
remaining-returns-then-len-bytes-clause-none t c = λ known limits layout children values h e.
    let laid = c.layout.ensures ∙ h.0.laid in
    let own = own_bytes limits _ layout values _ c.len-len.result laid (c.counts.ensures known limits layout values h.0)
    (c.len-len.ensures limits values) in
    let size = parts_length layout children bare (λ j. values) in
    omega (arith, own, size, c.if-len-bytes.true)

pub remaining-returns-clause-left : goal.remaining-returns-clause-left
remaining-returns-clause-left t c = λ known limits layout children values h.
    let laid = c.layout.ensures ∙ h.0.laid in
    let own = own_bytes limits _ layout values _ c.len-len.result laid (c.counts.ensures known limits layout values h.0)
    (c.len-len.ensures limits values) in
    let size = parts_length layout children bare (λ j. values) in
    let held = subst (λ (ns : List Node). AreNodes (IsColumn known limits) children ns (child_values layout values))
    (sym c.deref.ensures.value) h.1 in
    IfSome_then c.remaining_all.result (c.remaining_all.ensures.left known limits children (child_values layout values) held)
    (λ n e. omega (arith, own, size, e, c.if-len-bytes.false))

pub remaining-returns-clause-none : goal.remaining-returns-clause-none
remaining-returns-clause-none t c = λ known limits layout children values h e.
    let laid = c.layout.ensures ∙ h.0.laid in
    let own = own_bytes limits _ layout values _ c.len-len.result laid (c.counts.ensures known limits layout values h.0)
    (c.len-len.ensures limits values) in
    let size = parts_length layout children bare (λ j. values) in
    let held = subst (λ (ns : List Node). AreNodes (IsColumn known limits) children ns (child_values layout values))
    (sym c.deref.ensures.value) h.1 in
    let more = c.remaining_all.ensures.none known limits children (child_values layout values) held e in
    omega (arith, own, size, more, c.if-len-bytes.false)

pub remaining_all-returns-in_err-left-clause-none : goal.remaining_all-returns-in_err-left-clause-none
remaining_all-returns-in_err-left-clause-none t c = λ known limits shape given h e.
    let P = IsColumn known limits in
    let at = at_node P c.loop-node.node-index shape c.args.nodes.now given c.node-item.result c.loop-node-test.true h in
    let held = subst (λ (n : Node). IsNode P at.0 at.1 n (given c.loop-node.node-index)) (sym c.node-item.is) at.3 in
    past_next c.loop-node.node-index shape given at.0 at.1 c.args.bytes c.loop-node.left at.2
    (c.loop-node.invariant.left known limits shape given h) (c.in_err-left.ensures.none known limits at.0 at.1
    (given c.loop-node.node-index) held refl)

pub remaining_all-loop-node-preserved : goal.remaining_all-loop-node-preserved
remaining_all-loop-node-preserved t c = record {
  left = λ known limits shape given h.
      let P = IsColumn known limits in
      let at = at_node P c.loop-node.node-index shape c.args.nodes.now given c.node-item.result c.loop-node-test.true h in
      let held = subst (λ (n : Node). IsNode P at.0 at.1 n (given c.loop-node.node-index)) (sym c.node-item.is) at.3 in
      let size = bytes_next c.loop-node.node-index shape given at.0 at.1 at.2 in
      let one = c.in_ok-left.ensures.left known limits at.0 at.1 (given c.loop-node.node-index) held in
      rw add-one (omega (arith, size, one, c.loop-node.invariant.left known limits shape given h));
  fewer = omega (arith, c.in_ok-left.ensures.fewer, c.loop-node.invariant.fewer);
}

pub remaining_all-returns-clause-left : goal.remaining_all-returns-clause-left
remaining_all-returns-clause-left t c = λ known limits shape given h.
    let all = first_all (IsColumn known limits) c.loop-node.node-index shape c.args.nodes.now given
    (omega (arith, c.loop-node-test.false, c.loop-node.auto.node-index-end)) h in
    subst (λ (s : Shape). length (padded_bytes (buffers_of s given)) + c.loop-node.left ≡ c.args.bytes) all
    (c.loop-node.invariant.left known limits shape given h)
