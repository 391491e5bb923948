use Rattle.std.proofs.Common.{◌≡◌, ◌∙◌, sym, ap, subst, ℕ, ◌*◌, ◌<◌, ◌++◌, List, replicate, add-one, arith, rules, inl}
use Rattle.std.proofs.Common.{length, length-append}
use Rattle.std.proofs.lemmas.List.{length-replicate}
use Rattle.std.proofs.lemmas.Result.{err_from_is_err_and, on_ok_weaker, IfErr-weaker}
use Rattle.ipc_model.specs.declared.layout.Layout.{Layout}
use Rattle.ipc_model.specs.declared.value.Value.{Value}
use Rattle.ipc_model.specs.declared.value.Value.TheVariants.{Null}
use Rattle.ipc_column.specs.Shapes.{bare}
use Rattle.ipc_encode.specs.declared.tree.Node.{Node}
use Rattle.ipc_encode.specs.Buffers.{child_values, nulls_below}
use Rattle.ipc_encode.specs.Built.{AreNodes, BeginsWith, IsColumn, ArePushesRefused}
use Rattle.ipc_encode.specs.Numbers.{known_indices}
use Rattle.ipc_encode.proofs.Steps.{more_below, nulls_give}
use Rattle.ipc_encode.proofs.Growing.{child_refused, mixed_refused, node_is, lent_column, lent_children, lent_node, mixed_more, mixed_all}
use Rattle.ipc_encode.proofs.Beginnings.{below_less, column_begins, mixed_begin, node_begins, nodes_begin}
use Rattle.ipc_encode.proofs.tree.+append_null.Goals as goal

-- what a node's nulls give to its children
given_is : (layout own : Layout) (values : List Value) (count many : ℕ) → own ≡ layout → many ≡ nulls_below own
    → ◌≡◌ {A = ℕ → List Value} (λ j. child_values layout values j ++ replicate (count * many) Null)
    (child_values layout (values ++ replicate count Null))
given_is layout own values count many laid e =
    more_below layout values (replicate count Null) (λ j. replicate (count * many) Null)
    (λ j. nulls_give layout count j ∙ ap (λ (n : ℕ). replicate (count * n) Null) (sym (e ∙ ap nulls_below laid)))

pub append_null-returns-then-count-limits : goal.append_null-returns-then-count-limits
append_null-returns-then-count-limits g t c = λ layout children values h. record {
  appended = tt;
  refused = inl (inl (omega (
    arith,
    length-append values (replicate c.args.count Null),
    length-replicate c.args.count Null,
    c.if-count-limits.true,
  )));
  begun = λ other. node_begins (known_indices (g.I.IndexOf.index c.args.indices.now)) c.args.limits.now layout children
      c.args.node.now values h;
}

pub append_null-returns-in_err-append_nulls : goal.append_null-returns-in_err-append_nulls
append_null-returns-in_err-append_nulls g t c = λ layout children values h.
    let known = known_indices (g.I.IndexOf.index c.args.indices.now) in
    let limits = c.args.limits.now in
    let Q = BeginsWith known limits in
    let held = subst (λ (ns : List Node). AreNodes (IsColumn known limits) children ns (child_values layout values))
    (sym c.deref_mut.ensures.value) h.1 in
    let below = c.in_err-append_nulls.ensures children (child_values layout values) held in
    let p = err_from_is_err_and c.from_residual.result c.from_residual.ensures.1 in
    rw (p.1, p.2) (record {
      appended = tt;
      refused = child_refused limits layout children bare (λ j. values ++ replicate c.args.count Null) c.in_err-append_nulls.field-0.0
          (subst (λ (given : ℕ → List Value). ArePushesRefused limits children given c.in_err-append_nulls.field-0.0)
          (given_is layout _ values c.args.count c.nulls_below.result (c.layout.ensures ∙ h.0.laid) c.nulls_below.ensures.count)
          below.refused);
      begun = λ other. (
        lent_column Q layout values c.args.node.now c.append_nulls.new.nodes (column_begins known limits layout values _ h.0),
        lent_children Q children (child_values layout values) c.args.node.now c.deref_mut.result.now c.append_nulls.new.nodes
            c.deref_mut.ensures.value c.append_nulls.auto.nodes (below.begun other),
      );
    })

pub append_null-returns : goal.append_null-returns
append_null-returns g t c = λ layout children values h.
    let known = known_indices (g.I.IndexOf.index c.args.indices.now) in
    let limits = c.args.limits.now in
    let P = IsColumn known limits in
    let Q = BeginsWith known limits in
    let nulls = replicate c.args.count Null in
    let lent = lent_node P layout children values (values ++ nulls) c.args.node.now c.deref_mut.result.now c.append_nulls.new.nodes
    c.deref_mut.ensures.value c.append_nulls.auto.nodes h
    (λ held. subst (λ (given : ℕ → List Value). AreNodes P children c.append_nulls.new.nodes given)
    (given_is layout _ values c.args.count c.nulls_below.result (c.layout.ensures ∙ h.0.laid) c.nulls_below.ensures.count)
    (c.in_ok-append_nulls.ensures children (child_values layout values) held).appended) in
    let inner = below_less known limits layout children _ values nulls
    (nodes_begin known limits children _ (child_values layout (values ++ nulls)) lent.1) in
    record {
      appended = on_ok_weaker c.append_own_nulls.result (λ own. node_is P layout children (values ++ nulls) _ own lent.1)
          (c.append_own_nulls.ensures.appended layout values lent.0);
      refused = c.append_own_nulls.ensures.refused layout children values lent.0;
      begun = IfErr-weaker c.append_own_nulls.result _ _ (λ fault own other. node_is Q layout children values _ (own other) inner)
          (c.append_own_nulls.ensures.begun layout values lent.0);
    }

pub append_nulls-returns-in_err-append_null : goal.append_nulls-returns-in_err-append_null
append_nulls-returns-in_err-append_null g t c = λ shape given h.
    let known = known_indices (g.I.IndexOf.index c.args.indices.now) in
    let limits = c.args.limits.now in
    let P = IsColumn known limits in
    let inside : c.loop-i.i < length c.loop-i.nodes = omega (arith, c.loop-i.invariant.unvisited.0, c.loop-i-test.true) in
    let so_far = c.loop-i.invariant.appended shape given h in
    let p = err_from_is_err_and c.from_residual.result c.from_residual.ensures.1 in
    rw (p.1, p.2) (record {
      appended = tt;
      refused = mixed_refused limits P P c.loop-i.i shape c.loop-i.nodes given (λ j. given j ++ replicate c.args.count Null)
          c.index-nodes-i.result c.in_err-append_null.field-0.0 inside
          (λ l below held. (c.in_err-append_null.ensures l below (given c.loop-i.i) held).refused) so_far;
      begun = λ other. mixed_begin known limits c.loop-i.i shape c.loop-i.nodes given (λ j. replicate c.args.count Null)
          c.append_null.new.node c.index-nodes-i.result inside
          (λ l below held. (c.in_err-append_null.ensures l below (given c.loop-i.i) held).begun other) so_far;
    })

pub append_nulls-loop-i-preserved : goal.append_nulls-loop-i-preserved
append_nulls-loop-i-preserved g t c = record {
  unvisited = search rules;
  appended = λ shape given h. rw add-one (mixed_more (IsColumn (known_indices (g.I.IndexOf.index c.args.indices.now)) c.args.limits.now)
      (IsColumn (known_indices (g.I.IndexOf.index c.args.indices.now)) c.args.limits.now) c.loop-i.i shape c.loop-i.nodes given
      (λ j. given j ++ replicate c.args.count Null)
      c.append_null.new.node c.index-nodes-i.result (omega (arith, c.loop-i.invariant.unvisited.0, c.loop-i-test.true))
      (λ l below held. (c.in_ok-append_null.ensures l below (given c.loop-i.i) held).appended)
      (c.loop-i.invariant.appended shape given h));
}

pub append_nulls-returns : goal.append_nulls-returns
append_nulls-returns g t c = λ shape given h. record {
  appended = mixed_all (IsColumn (known_indices (g.I.IndexOf.index c.args.indices.now)) c.args.limits.now)
      (IsColumn (known_indices (g.I.IndexOf.index c.args.indices.now)) c.args.limits.now) c.loop-i.i shape c.loop-i.nodes given
      (λ j. given j ++ replicate c.args.count Null)
      (omega (arith, c.loop-i.invariant.unvisited.0, c.loop-i-test.false, c.loop-i.auto.i-end)) (c.loop-i.invariant.appended shape given h);
  refused = tt;
  begun = tt;
}
