use Rattle.std.proofs.Common.{◌≡◌, refl, sym, subst, List, add-one, arith}
use Rattle.ipc_column.specs.Shapes.{Shape, node_count}
use Rattle.ipc_encode.specs.Built.{AreNodes, IsColumn, IsNode}
use Rattle.ipc_encode.specs.Buffers.{child_values}
use Rattle.ipc_encode.specs.declared.tree.Node.{Node}
use Rattle.ipc_encode.proofs.Growing.{at_node, first_all}
use Rattle.ipc_encode.proofs.Shares.{count_next}
use Rattle.ipc_encode.proofs.fitting.+count.Goals as goal

pub loop-node-init : goal.loop-node-init
unfolding node_count
loop-node-init t c = λ known limits shape given h. refl

pub loop-node-preserved : goal.loop-node-preserved
loop-node-preserved t c = λ known limits shape given h.
    let P = IsColumn known limits in
    let at = at_node P c.loop-node.node-index shape c.args.nodes.now given c.node-item.result c.loop-node-test.true h in
    let held = subst (λ (n : Node). IsNode P at.0 at.1 n (given c.loop-node.node-index)) (sym c.node-item.is) at.3 in
    let next = count_next c.loop-node.node-index shape at.0 at.1 at.2 in
    let values = child_values at.0 (given c.loop-node.node-index) in
    let inside = c.in_ok-column_count.ensures known limits at.1 values
    (subst (λ (ns : List Node). AreNodes P at.1 ns values) (sym c.deref.ensures.value) held.1) in
    rw add-one (omega (
      arith,
      next,
      inside,
      c.loop-node.invariant known limits shape given h,
      c.in_ok-checked_add.is,
      c.in_ok-count.is,
      c.checked_add.ensures,
      c.checked_add-in-loop-node.ensures,
    ))

pub returns : goal.returns
returns t c = λ known limits shape given h.
    let all = first_all (IsColumn known limits) c.loop-node.node-index shape c.args.nodes.now given
    (omega (arith, c.loop-node-test.false, c.loop-node.auto.node-index-end)) h in
    subst (λ (s : Shape). c.loop-node.count ≡ node_count s) all (c.loop-node.invariant known limits shape given h)
