use Rattle.std.proofs.Common.{◌≡◌, ◌∙◌, refl, sym, ap, subst, ℕ, ◌+◌, ◌<◌, ◌++◌, List, [], ◌∷◌, length, take, add-one, append_assoc, arith}
use Rattle.std.proofs.Common.{rules}
use Rattle.std.proofs.lemmas.Result.{err_from_is_err_and, IfOk-weaker}
use Rattle.std.proofs.lemmas.List.{take_all, take_more}
use Rattle.std.specs.List.{AllByRecursion}
use Rattle.std.specs.Prelude.{option_copied}
use Rattle.std.proofs.Common.{Option, get_or}
use Rattle.ipc_model.specs.declared.schema.Field.{Field}
use Rattle.ipc_model.specs.declared.value.Value.TheOpen.{Value-F}
use Rattle.ipc_encode.specs.Fitting.{FitsSome, IsInsideFit, ItemsFit}
use Rattle.ipc_encode.proofs.Sizes.{first_fit_all}
use Rattle.ipc_model.specs.declared.layout.Layout.{Layout}
use Rattle.ipc_model.specs.declared.value.Value.{Value}
use Rattle.ipc_model.specs.declared.value.Value.TheVariants as v
use Rattle.ipc_column.specs.Shapes.{bare, field}
use Rattle.ipc_encode.specs.declared.tree.Node.{Node, out-Node}
use Rattle.ipc_encode.specs.Buffers.{child_values, nulls_below}
use Rattle.ipc_encode.specs.Cells.{cell}
use Rattle.ipc_encode.specs.Built.{AreNodes, BeginsWith, IsNode, IsColumn, ArePushesRefused, Appends}
use Rattle.ipc_encode.specs.Numbers.{known_indices}
use Rattle.ipc_encode.proofs.Steps.{fixed_are, parts_are, fixed_gives, struct_gives, lists_more, fixed_more, nulls_more, structs_more}
use Rattle.ipc_encode.proofs.Steps.{list_are}
use Rattle.ipc_encode.proofs.Growing.{own_refused, child_refused, mixed_refused, all_refused, node_is}
use Rattle.ipc_encode.proofs.Growing.{lent_column, lent_children, lent_node}
use Rattle.ipc_encode.proofs.Growing.{mixed_more, mixed_all, leaf_has}
use Rattle.ipc_encode.proofs.Beginnings.{below_less, column_begins, mixed_begin, node_less, nodes_begin}
use Rattle.ipc_encode.proofs.Inside.{all_more, and_true, deep_fits, items_fit, next_fits, no_next, out_list, out_struct}
use Rattle.ipc_encode.proofs.tree.+append.Goals.{append_below-in_default-value-via-in-List+else-as_slice-size}
use Rattle.ipc_encode.proofs.tree.+append.Goals.{append_below-in_default-value-via-in_default-value}
use Rattle.ipc_encode.proofs.tree.+append.Goals.{append_parts-in-Some+in_ok-one-in-Some, append_parts-in-None+in_ok-append_null-in-None}
use Rattle.ipc_encode.proofs.tree.+append.Goals as goal

pub append-returns-in_err-push-clause-appended : goal.append-returns-in_err-push-clause-appended
append-returns-in_err-push-clause-appended g t c = λ layout children values h.
    let known = known_indices (g.I.IndexOf.index c.args.indices.now) in
    let limits = c.args.limits.now in
    let begun = nodes_begin known limits children (out-Node c.args.node.now).children.items (child_values layout values) h.1 in
    let p = err_from_is_err_and c.from_residual.result c.from_residual.ensures.1 in
    rw (p.1, p.2) (record {
      appended = tt;
      refused = own_refused limits layout children bare (λ j. values ++ c.args.value.now ∷ []) c.in_err-push.field-0.0
          (c.in_err-push.ensures.refused layout values h.0);
      begun = λ other. node_is (BeginsWith known limits) layout children values _
          (column_begins known limits layout values c.push.new.self (c.in_err-push.ensures.kept layout values h.0 other)) begun;
    })

pub append-returns-then-is_leaf-clause-appended : goal.append-returns-then-is_leaf-clause-appended
append-returns-then-is_leaf-clause-appended g t c = λ layout children values h.
    let P = IsColumn (known_indices (g.I.IndexOf.index c.args.indices.now)) c.args.limits.now in
    let more = values ++ c.args.value.now ∷ [] in
    record {
      appended = node_is P layout children more _ (c.in_ok-push.ensures.pushed layout values h.0)
          (leaf_has P children (out-Node c.args.node.now).children.items (child_values layout values) (child_values layout more)
          (c.is_leaf.ensures.0 c.if-is_leaf.true) h.1);
      refused = tt;
      begun = tt;
    }

pub append_deep-returns-in_err-inside-clause-appended : goal.append_deep-returns-in_err-inside-clause-appended
append_deep-returns-in_err-inside-clause-appended g t c = λ layout children values h.
    let known = known_indices (g.I.IndexOf.index c.args.indices.now) in
    let limits = c.args.limits.now in
    let P = IsColumn known limits in
    let Q = BeginsWith known limits in
    let laid = c.layout.ensures ∙ h.0.laid in
    let held = subst (λ (l : Layout). AreNodes P children c.deref_mut.result.now (child_values l values)) (sym laid)
    (subst (λ (ns : List Node). AreNodes P children ns (child_values layout values)) (sym c.deref_mut.ensures.value) h.1) in
    let below = c.in_err-inside.ensures.appended children values held in
    let p = err_from_is_err_and c.from_residual.result c.from_residual.ensures.1 in
    rw (p.1, p.2) (record {
      appended = tt;
      refused = child_refused limits layout children bare (λ j. values ++ c.args.value.now ∷ []) c.in_err-inside.field-0.0
          (subst (λ (l : Layout). ArePushesRefused limits children (child_values l (values ++ c.args.value.now ∷ []))
          c.in_err-inside.field-0.0) laid below.refused);
      begun = λ other. (
        lent_column Q layout values c.args.node.now c.append_below.new.nodes (column_begins known limits layout values _ h.0),
        lent_children Q children (child_values layout values) c.args.node.now c.deref_mut.result.now c.append_below.new.nodes
            c.deref_mut.ensures.value c.append_below.auto.nodes
            (subst (λ (l : Layout). AreNodes Q children c.append_below.new.nodes (child_values l values)) laid (below.begun other)),
      );
    })

pub append_deep-returns-in_err-push-clause-appended : goal.append_deep-returns-in_err-push-clause-appended
append_deep-returns-in_err-push-clause-appended g t c = λ layout children values h.
    let known = known_indices (g.I.IndexOf.index c.args.indices.now) in
    let limits = c.args.limits.now in
    let P = IsColumn known limits in
    let Q = BeginsWith known limits in
    let more = values ++ c.args.value.now ∷ [] in
    let laid = c.layout.ensures ∙ h.0.laid in
    let lent = lent_node P layout children values more c.args.node.now
    c.deref_mut.result.now c.append_below.new.nodes c.deref_mut.ensures.value c.append_below.auto.nodes h
    (λ held. subst (λ (l : Layout). AreNodes P children c.append_below.new.nodes (child_values l more)) laid
    (c.in_ok-inside.ensures.appended children values
    (subst (λ (l : Layout). AreNodes P children c.deref_mut.result.now (child_values l values)) (sym laid) held)).appended) in
    let inner = below_less known limits layout children _ values (c.args.value.now ∷ [])
    (nodes_begin known limits children _ (child_values layout more) lent.1) in
    let p = err_from_is_err_and c.from_residual-in_err-push.result c.from_residual-in_err-push.ensures.1 in
    rw (p.1, p.2) (record {
      appended = tt;
      refused = own_refused limits layout children bare (λ j. more) c.in_err-push.field-0.0
          (c.in_err-push.ensures.refused layout values lent.0);
      begun = λ other. node_is Q layout children values _
          (column_begins known limits layout values c.push.new.self (c.in_err-push.ensures.kept layout values lent.0 other)) inner;
    })

pub append_deep-returns-clause-appended : goal.append_deep-returns-clause-appended
append_deep-returns-clause-appended g t c = λ layout children values h.
    let P = IsColumn (known_indices (g.I.IndexOf.index c.args.indices.now)) c.args.limits.now in
    let more = values ++ c.args.value.now ∷ [] in
    let laid = c.layout.ensures ∙ h.0.laid in
    let lent = lent_node P layout children values more c.args.node.now
    c.deref_mut.result.now c.append_below.new.nodes c.deref_mut.ensures.value c.append_below.auto.nodes h
    (λ held. subst (λ (l : Layout). AreNodes P children c.append_below.new.nodes (child_values l more)) laid
    (c.in_ok-inside.ensures.appended children values
    (subst (λ (l : Layout). AreNodes P children c.deref_mut.result.now (child_values l values)) (sym laid) held)).appended) in
    record {
      appended = node_is P layout children more _ (c.in_ok-push.ensures.pushed layout values lent.0) lent.1;
      refused = tt;
      begun = tt;
    }

pub append_deep-returns-clause-fits : goal.append_deep-returns-clause-fits
append_deep-returns-clause-fits g t c = λ all.
    let both = and_true _ _ all in
    deep_fits _ c.args.value.now c.children_of.result.now (c.fits_own.ensures both.1) c.children_of.ensures
    (c.in_ok-inside.ensures.fits both.0)

-- ---- below a column

pub append_below-returns-in_err-fit-in-Lists-clause-appended : goal.append_below-returns-in_err-fit-in-Lists-clause-appended
append_below-returns-in_err-fit-in-Lists-clause-appended g t c = λ shape values h.
    let limits = c.args.limits.now in
    let fault = c.in_err-fit-in-Lists.field-0.0 in
    let below = c.in_err-fit-in-Lists.ensures.appended shape (child_values c.args.layout values) h in
    let p = err_from_is_err_and c.from_residual.result c.from_residual.ensures.1 in
    rw (p.1, p.2) (record {
      appended = tt;
      refused = subst (λ (all : ℕ → List Value). ArePushesRefused limits shape all fault)
          (lists_more c.args.layout values c.args.value.now c.items.result.now c.in-Lists.is (sym c.items.ensures)) below.refused;
      begun = below.begun;
    })

pub append_below-returns-in_ok-fit-in-Lists-clause-appended : goal.append_below-returns-in_ok-fit-in-Lists-clause-appended
append_below-returns-in_ok-fit-in-Lists-clause-appended g t c = λ shape values h.
    let P = IsColumn (known_indices (g.I.IndexOf.index c.args.indices.now)) c.args.limits.now in
    record {
      appended = subst (λ (all : ℕ → List Value). AreNodes P shape c.append_items.new.nodes all)
          (lists_more c.args.layout values c.args.value.now c.items.result.now c.in-Lists.is (sym c.items.ensures))
          (c.in_ok-fit-in-Lists.ensures.appended shape (child_values c.args.layout values) h).appended;
      refused = tt;
      begun = tt;
    }

pub append_below-returns-in_ok-fit-in-Lists-clause-fits : goal.append_below-returns-in_ok-fit-in-Lists-clause-fits
append_below-returns-in_ok-fit-in-Lists-clause-fits g t c = λ all.
    let both = and_true _ _ all in
    c.is_no_struct.ensures c.args.fields.now both.1
    (subst (λ (vs : List Value). ItemsFit c.args.fields.now vs) c.items.ensures (c.in_ok-fit-in-Lists.ensures.fits both.0))

pub append_below-returns-in-Struct-clause-appended : goal.append_below-returns-in-Struct-clause-appended
append_below-returns-in-Struct-clause-appended g t c = λ shape values h.
    subst (λ (all : ℕ → List Value). Appends (known_indices (g.I.IndexOf.index c.args.indices.now)) c.args.limits.now shape
    (child_values c.args.layout values) all c.append_parts.new.nodes c.append_parts.result)
    (structs_more c.args.layout values c.args.value.now (λ j. cell j c.as_slice-in-Struct.result.now) c.in-Structs.is
    (λ j. parts_are c.args.value.now c.in-Struct.parts c.in-Struct.is j ∙ ap (λ (ps : List Value). cell j ps)
    (sym c.as_slice-in-Struct.ensures)))
    (c.append_parts.ensures.appended shape (child_values c.args.layout values) h)

pub append_below-returns-in-Struct-clause-fits : goal.append_below-returns-in-Struct-clause-fits
append_below-returns-in-Struct-clause-fits g t c = IfOk-weaker c.append_parts.result _ _ (λ all one yes.
    let row = one yes in
    subst (λ (w : Value-F Value). IsInsideFit c.args.fields.now w)
    (sym (out_struct c.args.value.now c.as_slice-in-Struct.result.now (c.in-Struct.is ∙ ap v.Struct (sym c.as_slice-in-Struct.ensures))))
    row.1) c.append_parts.ensures.fits

pub append_below-returns-in-List-clause-appended : goal.append_below-returns-in-List-clause-appended
append_below-returns-in-List-clause-appended g t c = λ shape values h.
    let many : length c.in-List.items ≡ c.in-FixedLists.size =
    ap (λ (vs : List Value). length vs) (sym c.as_slice.ensures) ∙ c.if-as_slice-size.true in
    let is = fixed_are c.in-FixedLists.size c.args.value.now c.in-List.items c.in-List.is many ∙ sym c.as_slice-in-List.ensures in
    subst (λ (all : ℕ → List Value). Appends (known_indices (g.I.IndexOf.index c.args.indices.now)) c.args.limits.now shape
    (child_values c.args.layout values) all c.append_items-in-List.new.nodes c.append_items-in-List.result)
    (fixed_more c.args.layout c.in-FixedLists.size values c.args.value.now c.as_slice-in-List.result.now c.in-FixedLists.is is)
    (c.append_items-in-List.ensures.appended shape (child_values c.args.layout values) h)

pub append_below-returns-in-List-clause-fits : goal.append_below-returns-in-List-clause-fits
append_below-returns-in-List-clause-fits g t c = IfOk-weaker c.append_items-in-List.result _ _ (λ all one yes.
    subst (λ (w : Value-F Value). IsInsideFit c.args.fields.now w)
    (sym (out_list c.args.value.now c.as_slice-in-List.result.now (c.in-List.is ∙ ap v.List (sym c.as_slice-in-List.ensures))))
    (one yes)) c.append_items-in-List.ensures.fits

pub append_below-returns-in_err-append_nulls-in_default-value-clause-appended :
    goal.append_below-returns-in_err-append_nulls-in_default-value-clause-appended
append_below-returns-in_err-append_nulls-in_default-value-clause-appended g t c =
    let other : (items : List Value) → c.args.value.now ≡ v.List items → length items ≡ c.in-FixedLists.size → ⊥ =
    elim c.in_default-value.branch [
      | append_below-in_default-value-via-in-List+else-as_slice-size w ↦ λ items e size.
          let same : length items ≡ length w.as_slice.result.now =
          ap (λ (vs : List Value). length vs) (sym (list_are c.args.value.now items e)
          ∙ (list_are c.args.value.now w.in-List.items w.in-List.is ∙ sym w.as_slice.ensures)) in
          w.if-as_slice-size.false (sym same ∙ size)
      | append_below-in_default-value-via-in_default-value w ↦ λ items e size. w.in_default-value.not-List items e
    ] in
    λ shape values h.
    let more = nulls_more c.args.layout values c.args.value.now c.nulls_below.result (c.nulls_below.ensures.count
    ∙ sym (ap nulls_below c.in-FixedLists.is))
    (λ j. fixed_gives c.args.layout c.in-FixedLists.size c.args.value.now c.in-FixedLists.is other j) in
    let below = c.in_err-append_nulls-in_default-value.ensures shape (child_values c.args.layout values) h in
    let fault = c.in_err-append_nulls-in_default-value.field-0.0 in
    let p = err_from_is_err_and c.from_residual-in_err-append_nulls-in_default-value.result
    c.from_residual-in_err-append_nulls-in_default-value.ensures.1 in
    rw (p.1, p.2) (record {
      appended = tt;
      refused = subst (λ (all : ℕ → List Value). ArePushesRefused c.args.limits.now shape all fault) more below.refused;
      begun = below.begun;
    })

pub append_below-returns-in_ok-append_nulls-in_default-value-clause-appended :
    goal.append_below-returns-in_ok-append_nulls-in_default-value-clause-appended
append_below-returns-in_ok-append_nulls-in_default-value-clause-appended g t c =
    let other : (items : List Value) → c.args.value.now ≡ v.List items → length items ≡ c.in-FixedLists.size → ⊥ =
    elim c.in_default-value.branch [
      | append_below-in_default-value-via-in-List+else-as_slice-size w ↦ λ items e size.
          let same : length items ≡ length w.as_slice.result.now =
          ap (λ (vs : List Value). length vs) (sym (list_are c.args.value.now items e)
          ∙ (list_are c.args.value.now w.in-List.items w.in-List.is ∙ sym w.as_slice.ensures)) in
          w.if-as_slice-size.false (sym same ∙ size)
      | append_below-in_default-value-via-in_default-value w ↦ λ items e size. w.in_default-value.not-List items e
    ] in
    λ shape values h.
    let more = nulls_more c.args.layout values c.args.value.now c.nulls_below.result (c.nulls_below.ensures.count
    ∙ sym (ap nulls_below c.in-FixedLists.is))
    (λ j. fixed_gives c.args.layout c.in-FixedLists.size c.args.value.now c.in-FixedLists.is other j) in
    let P = IsColumn (known_indices (g.I.IndexOf.index c.args.indices.now)) c.args.limits.now in
    record {
      appended = subst (λ (all : ℕ → List Value). AreNodes P shape c.append_nulls.new.nodes all) more
          (c.in_ok-append_nulls-in_default-value.ensures shape (child_values c.args.layout values) h).appended;
      refused = tt;
      begun = tt;
    }

pub append_below-returns-in_ok-append_nulls-in_default-value-clause-fits :
    goal.append_below-returns-in_ok-append_nulls-in_default-value-clause-fits
append_below-returns-in_ok-append_nulls-in_default-value-clause-fits g t c = c.is_flat.ensures c.args.fields.now

pub append_below-returns-in_err-append_nulls-in_default-value-2-clause-appended :
    goal.append_below-returns-in_err-append_nulls-in_default-value-2-clause-appended
append_below-returns-in_err-append_nulls-in_default-value-2-clause-appended g t c = λ shape values h.
    let more = nulls_more c.args.layout values c.args.value.now c.nulls_below-in_default-value-2.result
    c.nulls_below-in_default-value-2.ensures.count
    (λ j. struct_gives c.args.layout c.args.value.now c.in-Structs.is c.in_default-value-2.not-Struct j) in
    let below = c.in_err-append_nulls-in_default-value-2.ensures shape (child_values c.args.layout values) h in
    let fault = c.in_err-append_nulls-in_default-value-2.field-0.0 in
    let p = err_from_is_err_and c.from_residual-in_err-append_nulls-in_default-value-2.result
    c.from_residual-in_err-append_nulls-in_default-value-2.ensures.1 in
    rw (p.1, p.2) (record {
      appended = tt;
      refused = subst (λ (all : ℕ → List Value). ArePushesRefused c.args.limits.now shape all fault) more below.refused;
      begun = below.begun;
    })

pub append_below-returns-in_ok-append_nulls-in_default-value-2-clause-appended :
    goal.append_below-returns-in_ok-append_nulls-in_default-value-2-clause-appended
append_below-returns-in_ok-append_nulls-in_default-value-2-clause-appended g t c = λ shape values h.
    let more = nulls_more c.args.layout values c.args.value.now c.nulls_below-in_default-value-2.result
    c.nulls_below-in_default-value-2.ensures.count
    (λ j. struct_gives c.args.layout c.args.value.now c.in-Structs.is c.in_default-value-2.not-Struct j) in
    let P = IsColumn (known_indices (g.I.IndexOf.index c.args.indices.now)) c.args.limits.now in
    record {
      appended = subst (λ (all : ℕ → List Value). AreNodes P shape c.append_nulls-in_default-value-2.new.nodes all) more
          (c.in_ok-append_nulls-in_default-value-2.ensures shape (child_values c.args.layout values) h).appended;
      refused = tt;
      begun = tt;
    }

pub append_below-returns-in_ok-append_nulls-in_default-value-2-clause-fits :
    goal.append_below-returns-in_ok-append_nulls-in_default-value-2-clause-fits
append_below-returns-in_ok-append_nulls-in_default-value-2-clause-fits g t c = c.is_flat-in_default-value-2.ensures c.args.fields.now

pub append_below-returns-in_default-clause-fits : goal.append_below-returns-in_default-clause-fits
append_below-returns-in_default-clause-fits g t c = c.is_flat-in_default.ensures c.args.fields.now

-- ---- several columns

pub append_items-returns-in_err-fit-clause-appended : goal.append_items-returns-in_err-fit-clause-appended
append_items-returns-in_err-fit-clause-appended g t c = λ shape given h.
    let known = known_indices (g.I.IndexOf.index c.args.indices.now) in
    let limits = c.args.limits.now in
    let P = IsColumn known limits in
    let inside : c.loop-i.i < length c.loop-i.nodes = omega (arith, c.loop-i.invariant.unvisited.0, c.loop-i-test.true) in
    let so_far = c.loop-i.invariant.appended shape given h in
    let p = err_from_is_err_and c.from_residual.result c.from_residual.ensures.1 in
    rw (p.1, p.2) (record {
      appended = tt;
      refused = mixed_refused limits P P c.loop-i.i shape c.loop-i.nodes given (λ j. given j ++ c.args.items.now)
          c.index-nodes-i.result c.in_err-fit.field-0.0 inside
          (λ l below held. (c.in_err-fit.ensures.appended l below (given c.loop-i.i) held).refused) so_far;
      begun = λ other. mixed_begin known limits c.loop-i.i shape c.loop-i.nodes given (λ j. c.args.items.now)
          c.append_all.new.node c.index-nodes-i.result inside
          (λ l below held. (c.in_err-fit.ensures.appended l below (given c.loop-i.i) held).begun other) so_far;
    })

pub append_items-loop-i-preserved : goal.append_items-loop-i-preserved
append_items-loop-i-preserved g t c = record {
  unvisited = search rules;
  appended = λ shape given h. rw add-one (mixed_more (IsColumn (known_indices (g.I.IndexOf.index c.args.indices.now)) c.args.limits.now)
      (IsColumn (known_indices (g.I.IndexOf.index c.args.indices.now)) c.args.limits.now) c.loop-i.i shape c.loop-i.nodes given
      (λ j. given j ++ c.args.items.now)
      c.append_all.new.node c.index-nodes-i.result (omega (arith, c.loop-i.invariant.unvisited.0, c.loop-i-test.true))
      (λ l below held. (c.in_ok-fit.ensures.appended l below (given c.loop-i.i) held).appended)
      (c.loop-i.invariant.appended shape given h));
  fits = λ all. items_fit c.args.fields.now c.args.items.now
      (subst (λ (f : Option Field). AllByRecursion (FitsSome f) c.args.items.now) c.first.ensures.value (c.in_ok-fit.ensures.fits all));
}

pub append_items-returns-clause-appended : goal.append_items-returns-clause-appended
append_items-returns-clause-appended g t c = λ shape given h. record {
  appended = mixed_all (IsColumn (known_indices (g.I.IndexOf.index c.args.indices.now)) c.args.limits.now)
      (IsColumn (known_indices (g.I.IndexOf.index c.args.indices.now)) c.args.limits.now) c.loop-i.i shape c.loop-i.nodes given
      (λ j. given j ++ c.args.items.now)
      (omega (arith, c.loop-i.invariant.unvisited.0, c.loop-i-test.false, c.loop-i.auto.i-end)) (c.loop-i.invariant.appended shape given h);
  refused = tt;
  begun = tt;
}

pub append_parts-loop-i-init : goal.append_parts-loop-i-init
append_parts-loop-i-init g t c = record {
  unvisited = search rules;
  appended = λ shape given h. h;
  parts = c.have_fields-fit.ensures.parts;
  columns = c.have_fields-fit.ensures.columns;
  fits = λ all. tt;
}

pub append_parts-returns-in_err-one-in-Some-clause-appended : goal.append_parts-returns-in_err-one-in-Some-clause-appended
append_parts-returns-in_err-one-in-Some-clause-appended g t c = λ shape given h.
    let known = known_indices (g.I.IndexOf.index c.args.indices.now) in
    let limits = c.args.limits.now in
    let P = IsColumn known limits in
    let inside : c.loop-i.i < length c.loop-i.nodes = omega (arith, c.loop-i.invariant.unvisited.0, c.loop-i-test.true) in
    let so_far = c.loop-i.invariant.appended shape given h in
    let p = err_from_is_err_and c.from_residual.result c.from_residual.ensures.1 in
    rw (p.1, p.2) (record {
      appended = tt;
      refused = mixed_refused limits P P c.loop-i.i shape c.loop-i.nodes given (λ j. given j ++ cell j c.args.parts.now ∷ [])
          c.index-nodes-i.result c.in_err-one-in-Some.field-0.0 inside
          (λ l below held. subst (λ (v : Value). ArePushesRefused limits (field l below bare) (λ j. given c.loop-i.i ++ v ∷ [])
          c.in_err-one-in-Some.field-0.0) (search rules)
          (c.in_err-one-in-Some.ensures.appended l below (given c.loop-i.i) held).refused) so_far;
      begun = λ other. mixed_begin known limits c.loop-i.i shape c.loop-i.nodes given (λ j. cell j c.args.parts.now ∷ [])
          c.append.new.node c.index-nodes-i.result inside
          (λ l below held. (c.in_err-one-in-Some.ensures.appended l below (given c.loop-i.i) held).begun other) so_far;
    })

pub append_parts-returns-in_err-append_null-in-None-clause-appended : goal.append_parts-returns-in_err-append_null-in-None-clause-appended
append_parts-returns-in_err-append_null-in-None-clause-appended g t c = λ shape given h.
    let known = known_indices (g.I.IndexOf.index c.args.indices.now) in
    let limits = c.args.limits.now in
    let P = IsColumn known limits in
    let inside : c.loop-i.i < length c.loop-i.nodes = omega (arith, c.loop-i.invariant.unvisited.0, c.loop-i-test.true) in
    let so_far = c.loop-i.invariant.appended shape given h in
    let p = err_from_is_err_and c.from_residual-in_err-append_null-in-None.result c.from_residual-in_err-append_null-in-None.ensures.1 in
    rw (p.1, p.2) (record {
      appended = tt;
      refused = mixed_refused limits P P c.loop-i.i shape c.loop-i.nodes given (λ j. given j ++ cell j c.args.parts.now ∷ [])
          c.index-nodes-i-in-None.result c.in_err-append_null-in-None.field-0.0 inside
          (λ l below held. subst (λ (v : Value). ArePushesRefused limits (field l below bare) (λ j. given c.loop-i.i ++ v ∷ [])
          c.in_err-append_null-in-None.field-0.0) (search rules)
          (c.in_err-append_null-in-None.ensures l below (given c.loop-i.i) held).refused) so_far;
      begun = λ other. mixed_begin known limits c.loop-i.i shape c.loop-i.nodes given (λ j. cell j c.args.parts.now ∷ [])
          c.append_null.new.node c.index-nodes-i-in-None.result inside
          (λ l below held. (c.in_err-append_null-in-None.ensures l below (given c.loop-i.i) held).begun other) so_far;
    })

pub append_parts-loop-i-preserved : goal.append_parts-loop-i-preserved
append_parts-loop-i-preserved g t c = elim c.match-get.branch [
  | append_parts-in-Some+in_ok-one-in-Some w ↦ record {
    unvisited = rw w.nodes-is (search rules);
    appended = λ shape given h. rw (w.nodes-is, add-one)
        (mixed_more (IsColumn (known_indices (g.I.IndexOf.index c.args.indices.now)) c.args.limits.now)
        (IsColumn (known_indices (g.I.IndexOf.index c.args.indices.now)) c.args.limits.now) c.loop-i.i shape c.loop-i.nodes
        given
        (λ j. given j ++ cell j c.args.parts.now ∷ []) w.append.new.node w.index-nodes-i.result
        (omega (arith, c.loop-i.invariant.unvisited.0, c.loop-i-test.true))
        (λ l child_values held. subst (λ (v : Value). IsNode
        (IsColumn (known_indices (g.I.IndexOf.index c.args.indices.now)) c.args.limits.now) l child_values w.append.new.node
        (given c.loop-i.i ++ v ∷ [])) (search rules)
        (w.in_ok-one-in-Some.ensures.appended l child_values (given c.loop-i.i) held).appended)
        (c.loop-i.invariant.appended shape given h));
    parts = λ all. c.loop-i.invariant.parts (and_true _ _ (rw w.fit-is at all)).0;
    columns = λ all. c.loop-i.invariant.columns (and_true _ _ (rw w.fit-is at all)).0;
    fits = λ all.
        let both = and_true _ _ (rw w.fit-is at all) in
        rw add-one (next_fits c.loop-i.i c.args.fields.now c.args.parts.now w.get-in-Some.result _ w.get-in-Some.ensures.lookup.1
        (search rules)
        (w.in_ok-one-in-Some.ensures.fits both.1) (c.loop-i.invariant.fits both.0));
  }
  | append_parts-in-None+in_ok-append_null-in-None w ↦ record {
    unvisited = rw w.nodes-is (search rules);
    appended = λ shape given h. rw (w.nodes-is, add-one)
        (mixed_more (IsColumn (known_indices (g.I.IndexOf.index c.args.indices.now)) c.args.limits.now)
        (IsColumn (known_indices (g.I.IndexOf.index c.args.indices.now)) c.args.limits.now) c.loop-i.i shape c.loop-i.nodes
        given
        (λ j. given j ++ cell j c.args.parts.now ∷ []) w.append_null.new.node w.index-nodes-i-in-None.result
        (omega (arith, c.loop-i.invariant.unvisited.0, c.loop-i-test.true))
        (λ l child_values held. subst (λ (v : Value). IsNode
        (IsColumn (known_indices (g.I.IndexOf.index c.args.indices.now)) c.args.limits.now) l child_values
        w.append_null.new.node
        (given c.loop-i.i ++ v ∷ [])) (search rules)
        (w.in_ok-append_null-in-None.ensures l child_values (given c.loop-i.i) held).appended) (c.loop-i.invariant.appended shape given h));
    parts = λ all. c.loop-i.invariant.parts (rw w.fit-is at all);
    columns = λ all. c.loop-i.invariant.columns (rw w.fit-is at all);
    fits = λ all. rw add-one (no_next c.loop-i.i c.args.fields.now c.args.parts.now (search rules)
        (c.loop-i.invariant.fits (rw w.fit-is at all)));
  }
]

pub append_parts-returns-clause-appended : goal.append_parts-returns-clause-appended
append_parts-returns-clause-appended g t c = λ shape given h. record {
  appended = mixed_all (IsColumn (known_indices (g.I.IndexOf.index c.args.indices.now)) c.args.limits.now)
      (IsColumn (known_indices (g.I.IndexOf.index c.args.indices.now)) c.args.limits.now) c.loop-i.i shape c.loop-i.nodes given
      (λ j. given j ++ cell j c.args.parts.now ∷ [])
      (omega (arith, c.loop-i.invariant.unvisited.0, c.loop-i-test.false, c.loop-i.auto.i-end)) (c.loop-i.invariant.appended shape given h);
  refused = tt;
  begun = tt;
}

pub append_parts-returns-clause-fits : goal.append_parts-returns-clause-fits
append_parts-returns-clause-fits g t c = λ all. (
  c.loop-i.invariant.parts all,
  first_fit_all c.loop-i.i c.args.fields.now c.args.parts.now
      (omega (arith, c.loop-i.invariant.columns all, c.loop-i-test.false, c.loop-i.auto.i-end)) (c.loop-i.invariant.fits all),
)

-- ---- several values

-- the values so far and the next
values_next : (before values : List Value) (i : ℕ) (value : Value) → i < length values → value ≡ get_or values i value
    → (before ++ take i values) ++ value ∷ [] ≡ before ++ take (i + 1) values
values_next before values i value inside is =
    append_assoc before (take i values) (value ∷ []) ∙ ap (λ (vs : List Value). before ++ vs)
    (rw (take_more values i value inside, ← is) refl)

pub append_all-returns-in_err-one-clause-appended : goal.append_all-returns-in_err-one-clause-appended
append_all-returns-in_err-one-clause-appended g t c = λ layout children before h.
    let known = known_indices (g.I.IndexOf.index c.args.indices.now) in
    let limits = c.args.limits.now in
    let i = c.loop-value.value-index in
    let values = c.args.values.now in
    let so_far = take i values in
    let one = c.in_err-one.ensures.appended layout children (before ++ so_far) (c.loop-value.invariant.appended layout children before h) in
    let next = values_next before values i c.value-item.result c.loop-value-test.true c.value-item.is in
    let p = err_from_is_err_and c.from_residual.result c.from_residual.ensures.1 in
    rw (p.1, p.2) (record {
      appended = tt;
      refused = all_refused limits layout children before values (i + 1) c.in_err-one.field-0.0
          (subst (λ (vs : List Value). ArePushesRefused limits (field layout children bare)
          (λ j. vs) c.in_err-one.field-0.0) next one.refused);
      begun = λ other. node_less known limits layout children c.append.new.node before so_far (one.begun other);
    })

pub append_all-loop-value-preserved : goal.append_all-loop-value-preserved
append_all-loop-value-preserved g t c = record {
  appended = λ layout children before h.
      let P = IsColumn (known_indices (g.I.IndexOf.index c.args.indices.now)) c.args.limits.now in
      let i = c.loop-value.value-index in
      let values = c.args.values.now in
      let one = c.in_ok-one.ensures.appended layout children (before ++ take i values)
      (c.loop-value.invariant.appended layout children before h) in
      subst (λ (vs : List Value). IsNode P layout children c.append.new.node vs)
      (values_next before values i c.value-item.result c.loop-value-test.true c.value-item.is) one.appended;
  fits = λ all.
      let both = and_true _ _ all in
      let i = c.loop-value.value-index in
      let values = c.args.values.now in
      subst (λ (vs : List Value). AllByRecursion (FitsSome (option_copied c.args.field)) vs)
      (values_next [] values i c.value-item.result c.loop-value-test.true c.value-item.is)
      (all_more (FitsSome (option_copied c.args.field)) (take i values) c.value-item.result (c.loop-value.invariant.fits both.0)
      (c.in_ok-one.ensures.fits both.1));
}

pub append_all-returns-clause-fits : goal.append_all-returns-clause-fits
append_all-returns-clause-fits g t c = λ all.
    subst (λ (vs : List Value). AllByRecursion (FitsSome (option_copied c.args.field)) vs)
    (take_all c.loop-value.value-index c.args.values.now (omega (arith, c.loop-value-test.false))) (c.loop-value.invariant.fits all)
