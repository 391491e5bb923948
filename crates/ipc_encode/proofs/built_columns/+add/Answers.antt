use Rattle.std.proofs.Common.{◌∙◌, sym, ap, subst, List, add-one, arith, rules}
use Rattle.std.proofs.lemmas.Result.{on_ok_weaker, IfErr-weaker, err_from_is_err_and}
use Rattle.ipc_encode.specs.Buffers.{child_values}
use Rattle.ipc_encode.specs.Built.{AreNodes, IsColumn, IsNode}
use Rattle.ipc_encode.specs.Numbers.{new_indices}
use Rattle.ipc_encode.specs.Segments.{AddsColumns}
use Rattle.ipc_encode.specs.declared.tree.Node.{Node, out-Node}
use Rattle.ipc_encode.specs.declared.tree.Node.TheOpen.{Node-F}
use Rattle.ipc_encode.specs.declared.tree.Node.TheViews.{out-roll-Node}
use Rattle.ipc_column.specs.Shapes.{Shape}
use Rattle.ipc_encode.proofs.Growing.{at_node, first_all}
use Rattle.ipc_encode.proofs.SegmentColumns.{children_refused, columns_next, columns_none, columns_refused, own_refused_after}
use Rattle.ipc_encode.proofs.SegmentColumns.{with_children}
use Rattle.ipc_encode.proofs.built_columns.+add.Goals as goal

pub add_node-returns-in_err-add_column-clause-refused : goal.add_node-returns-in_err-add_column-clause-refused
add_node-returns-in_err-add_column-clause-refused g t c = λ known kept layout children values most h.
    let fault = c.in_err-add_column.field-0.0 in
    let p = err_from_is_err_and c.from_residual.result c.from_residual.ensures.1 in
    rw (p.1, p.2) (own_refused_after c.args.limits.now c.args.draft.now.len layout children values fault
    (c.in_err-add_column.ensures.refused known kept layout values h.0))

pub add_node-returns-clause-adds : goal.add_node-returns-clause-adds
add_node-returns-clause-adds g t c = λ known kept layout children values most h.
    let other = new_indices (g.N.Renumber.number c.args.numbers.now) known in
    let limits = c.args.limits.now in
    let d = c.args.draft.now in
    let mid = c.add_column.new.draft in
    let e = c.add_nodes.new.draft in
    let own = c.in_ok-add_column.ensures.adds known kept layout values most h.0 in
    let moved : Node-F Node = record { column = c.add_column.new.column; children = (out-Node c.args.node.now).children } in
    let lent = c.deref_mut.ensures.value ∙ ap (λ (f : Node-F Node). f.children.items) (out-roll-Node moved) in
    let held = subst (λ (ns : List Node). AreNodes (IsColumn known kept) children ns (child_values layout values)) (sym lent) h.1 in
    on_ok_weaker c.add_nodes.result
    (λ inner. with_children limits other layout children values d mid e own inner)
    (c.add_nodes.ensures.adds known kept children (child_values layout values) most held)

pub add_node-returns-clause-refused : goal.add_node-returns-clause-refused
add_node-returns-clause-refused g t c = λ known kept layout children values most h.
    let other = new_indices (g.N.Renumber.number c.args.numbers.now) known in
    let limits = c.args.limits.now in
    let d = c.args.draft.now in
    let mid = c.add_column.new.draft in
    let own = c.in_ok-add_column.ensures.adds known kept layout values most h.0 in
    let moved : Node-F Node = record { column = c.add_column.new.column; children = (out-Node c.args.node.now).children } in
    let lent = c.deref_mut.ensures.value ∙ ap (λ (f : Node-F Node). f.children.items) (out-roll-Node moved) in
    let held = subst (λ (ns : List Node). AreNodes (IsColumn known kept) children ns (child_values layout values)) (sym lent) h.1 in
    IfErr-weaker c.add_nodes.result _ _
    (λ fault inner. children_refused limits other layout children values d mid fault own inner)
    (c.add_nodes.ensures.refused known kept children (child_values layout values) most held)

pub add_nodes-loop-i-init : goal.add_nodes-loop-i-init
add_nodes-loop-i-init g t c = record {
  unvisited = search rules;
  within = c.requires;
  adds = λ known kept shape given most h. columns_none c.args.limits.now _ given c.args.draft.now c.requires;
}

pub add_nodes-loop-i-preserved : goal.add_nodes-loop-i-preserved
add_nodes-loop-i-preserved g t c = record {
  unvisited = search rules;
  within = c.in_ok-add_node.ensures.within;
  adds = λ known kept shape given most h.
      let P = IsColumn known kept in
      let i = c.loop-i.i in
      let at = at_node P i shape c.args.nodes.now given c.index-nodes-i.result
      (omega (arith, c.loop-i.invariant.unvisited.0, c.loop-i-test.true)) h in
      let same = c.loop-i.invariant.unvisited.1 i c.index-nodes-i.result (omega arith) in
      let held = subst (λ (n : Node). IsNode P at.0 at.1 n (given i)) (sym same) at.3 in
      rw add-one (columns_next c.args.limits.now (new_indices (g.N.Renumber.number c.args.numbers.now) known) i shape given at.0 at.1
      c.args.draft.now c.loop-i.draft c.add_node.new.draft at.2 (c.loop-i.invariant.adds known kept shape given most h)
      (c.in_ok-add_node.ensures.adds known kept at.0 at.1 (given i) most held));
}

pub add_nodes-returns-in_err-add_node-clause-refused : goal.add_nodes-returns-in_err-add_node-clause-refused
add_nodes-returns-in_err-add_node-clause-refused g t c = λ known kept shape given most h.
    let P = IsColumn known kept in
    let i = c.loop-i.i in
    let at = at_node P i shape c.args.nodes.now given c.index-nodes-i.result
    (omega (arith, c.loop-i.invariant.unvisited.0, c.loop-i-test.true)) h in
    let same = c.loop-i.invariant.unvisited.1 i c.index-nodes-i.result (omega arith) in
    let held = subst (λ (n : Node). IsNode P at.0 at.1 n (given i)) (sym same) at.3 in
    let fault = c.in_err-add_node.field-0.0 in
    let p = err_from_is_err_and c.from_residual.result c.from_residual.ensures.1 in
    rw (p.1, p.2) (columns_refused c.args.limits.now (new_indices (g.N.Renumber.number c.args.numbers.now) known) i shape given at.0 at.1
    c.args.draft.now c.loop-i.draft fault at.2 (c.loop-i.invariant.adds known kept shape given most h)
    (c.in_err-add_node.ensures.refused known kept at.0 at.1 (given i) most held))

pub add_nodes-returns-clause-adds : goal.add_nodes-returns-clause-adds
add_nodes-returns-clause-adds g t c = λ known kept shape given most h.
    let all = first_all (IsColumn known kept) c.loop-i.i shape c.args.nodes.now given
    (omega (arith, c.loop-i.invariant.unvisited.0, c.loop-i-test.false, c.loop-i.auto.i-end)) h in
    subst (λ (s : Shape). AddsColumns c.args.limits.now (new_indices (g.N.Renumber.number c.args.numbers.now) known) s given
    c.args.draft.now c.loop-i.draft) all (c.loop-i.invariant.adds known kept shape given most h)
