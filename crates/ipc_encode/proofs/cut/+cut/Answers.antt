use Rattle.std.proofs.Common.{◌∙◌, sym, ap, subst, List, add-one, arith, rules}
use Rattle.ipc_encode.specs.Buffers.{child_values}
use Rattle.ipc_encode.specs.Built.{AreNodes, BeginsWith, IsColumn}
use Rattle.ipc_encode.specs.declared.tree.Node.{Node, out-Node}
use Rattle.ipc_encode.specs.declared.tree.Node.TheOpen.{Node-F}
use Rattle.ipc_encode.specs.declared.tree.Node.TheViews.{out-roll-Node, roll-Node}
use Rattle.ipc_encode.proofs.Growing.{lent_children, lent_column, mixed_more, mixed_all}
use Rattle.ipc_encode.proofs.cut.+cut.Goals as goal

pub cut_node-returns : goal.cut_node-returns
cut_node-returns t c = λ known limits layout children vs size h.
    let P = BeginsWith known limits in
    let Q = IsColumn known limits in
    let below = child_values layout vs in
    let cut : Node-F Node = record { column = c.cut-below.new.self; children = (out-Node c.args.node.now).children } in
    let is = out-roll-Node cut in
    let lent = c.deref_mut.ensures.value ∙ ap (λ (f : Node-F Node). f.children.items) is in
    let inner = c.cut_nodes.ensures known limits children below
    (λ j. sym (c.cut-below.ensures.below known limits layout vs j size h.0))
    (subst (λ (ns : List Node). AreNodes P children ns below) (sym lent) h.1) in (
      lent_column Q layout vs (roll-Node cut) c.cut_nodes.new.nodes
          (subst (λ (f : Node-F Node). Q layout vs f.column) (sym is) (c.cut-below.ensures.column known limits layout vs size h.0)),
      lent_children Q children below (roll-Node cut) c.deref_mut.result.now c.cut_nodes.new.nodes c.deref_mut.ensures.value
          c.cut_nodes.auto.nodes inner,
    )

pub cut_nodes-loop-i-preserved : goal.cut_nodes-loop-i-preserved
cut_nodes-loop-i-preserved t c = record {
  unvisited = search rules;
  cut = λ known limits shape given size h. rw add-one (mixed_more (IsColumn known limits) (BeginsWith known limits) c.loop-i.i shape
      c.loop-i.nodes given given c.cut_node.new.node c.index-nodes-i.result
      (omega (arith, c.loop-i.invariant.unvisited.0, c.loop-i-test.true))
      (λ l children held. c.cut_node.ensures known limits l children (given c.loop-i.i) (size c.loop-i.i) held)
      (c.loop-i.invariant.cut known limits shape given size h));
}

pub cut_nodes-returns : goal.cut_nodes-returns
cut_nodes-returns t c = λ known limits shape given size h.
    mixed_all (IsColumn known limits) (BeginsWith known limits) c.loop-i.i shape c.loop-i.nodes given given
    (omega (arith, c.loop-i.invariant.unvisited.0, c.loop-i-test.false, c.loop-i.auto.i-end))
    (c.loop-i.invariant.cut known limits shape given size h)
