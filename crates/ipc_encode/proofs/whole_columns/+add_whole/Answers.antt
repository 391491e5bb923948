use Rattle.std.proofs.Common.{◌≡◌, ◌∙◌, sym, ap, subst, List, add-one, arith, rules}
use Rattle.std.proofs.lemmas.List.{length-map}
use Rattle.std.proofs.lemmas.Result.{on_ok_weaker, IfErr-weaker, err_from_is_err_and}
use Rattle.ipc_model.specs.declared.layout.Layout.{Layout}
use Rattle.ipc_model.specs.declared.schema.Field.{Field}
use Rattle.ipc_model.specs.declared.schema.Field.TheViews.{the_lemmas}
use Rattle.ipc_model.specs.declared.value.Value.{Value}
use Rattle.ipc_column.specs.Nested.{slot_values}
use Rattle.ipc_column.specs.Shapes.{Shape, bare, field, child_shape, field_layout, shape_of}
use Rattle.ipc_column.specs.Slots.{nested, nested_in}
use Rattle.ipc_encode.specs.Buffers.{child_values}
use Rattle.ipc_encode.specs.WholeColumns.{AreFullColumns, IsFullColumn, IsLaidOutAs}
use Rattle.ipc_encode.specs.Segments.{AddsColumns, AreRefusedAfter}
use Rattle.ipc_encode.proofs.SegmentColumns.{all_fields, children_refused, columns_next, columns_none, columns_refused, field_parts}
use Rattle.ipc_encode.proofs.SegmentColumns.{own_refused_after, shape_in, whole_fields, with_children}
use Rattle.ipc_encode.proofs.NestedSlots.{whole_at}
use Rattle.ipc_encode.proofs.whole_columns.+add_whole.Goals as goal
use Rattle.ipc_encode.proofs.Agreeing.{no_indices}

-- ---- a column, and then its children

pub add_whole-add_own-requires-clause-lies : goal.add_whole-add_own-requires-clause-lies
add_whole-add_own-requires-clause-lies t c =
    subst (λ (x : Layout). IsLaidOutAs x c.args.view.now (slot_values c.args.view.now)) (sym c.layout_at.ensures) c.requires.whole.0

pub add_whole-add_children-requires : goal.add_whole-add_children-requires
add_whole-add_children-requires t c =
    let view = c.args.view.now in
    let values = slot_values view in
    let of = c.args.field.now in
    let inner : child_shape of ≡ shape_of c.as_slice.result.now =
    ap (λ (s : Layout × Shape). s.1) (field_parts of) ∙ sym (ap (λ (fs : List Field). shape_of fs) c.as_slice.ensures) in
    let whole = subst (λ (s : Shape). AreFullColumns s (nested_in view) (child_values view.column.layout values)) inner
    (subst (λ (x : Layout). AreFullColumns (child_shape of) (nested_in view) (child_values x values)) (sym c.requires.whole.0.laid)
    c.requires.whole.1) in
    (search (rules, the_lemmas), (whole, (c.in_ok-add_own.ensures.adds no_indices).body))

pub add_whole-returns-in_err-add_own-clause-refused : goal.add_whole-returns-in_err-add_own-clause-refused
add_whole-returns-in_err-add_own-clause-refused t c =
    let values = slot_values c.args.view.now in
    let of = c.args.field.now in
    let fault = c.in_err-add_own.field-0.0 in
    let p = err_from_is_err_and c.from_residual.result c.from_residual.ensures.1 in
    rw (p.1, p.2) (own_refused_after c.args.limits.now c.args.draft.now.len (field_layout of) (child_shape of) values fault
    (subst (λ (x : Layout). AreRefusedAfter c.args.limits.now c.args.draft.now.len (field x bare bare) (λ j. values) fault)
    c.layout_at.ensures c.in_err-add_own.ensures.refused))

pub add_whole-returns-clause-adds : goal.add_whole-returns-clause-adds
add_whole-returns-clause-adds t c = λ known.
    let limits = c.args.limits.now in
    let view = c.args.view.now in
    let values = slot_values view in
    let of = c.args.field.now in
    let d = c.args.draft.now in
    let mid = c.add_own.new.draft in
    let e = c.add_children.new.draft in
    let own = subst (λ (x : Layout). AddsColumns limits known (field x bare bare) (λ j. values) d mid) c.layout_at.ensures
    (c.in_ok-add_own.ensures.adds known) in
    let inner : shape_of c.as_slice.result.now ≡ child_shape of =
    ap (λ (fs : List Field). shape_of fs) c.as_slice.ensures ∙ sym (ap (λ (s : Layout × Shape). s.1) (field_parts of)) in
    on_ok_weaker c.add_children.result
    (λ h. with_children limits known (field_layout of) (child_shape of) values d mid e own
    (subst (λ (x : Layout). AddsColumns limits known (child_shape of) (child_values x values) mid e) c.requires.whole.0.laid
    (subst (λ (s : Shape). AddsColumns limits known s (child_values view.column.layout values) mid e) inner h)))
    (c.add_children.ensures.adds known)

pub add_whole-returns-clause-refused : goal.add_whole-returns-clause-refused
add_whole-returns-clause-refused t c =
    let limits = c.args.limits.now in
    let view = c.args.view.now in
    let values = slot_values view in
    let of = c.args.field.now in
    let d = c.args.draft.now in
    let mid = c.add_own.new.draft in
    let own = subst (λ (x : Layout). AddsColumns limits no_indices (field x bare bare) (λ j. values) d mid) c.layout_at.ensures
    (c.in_ok-add_own.ensures.adds no_indices) in
    let inner : shape_of c.as_slice.result.now ≡ child_shape of =
    ap (λ (fs : List Field). shape_of fs) c.as_slice.ensures ∙ sym (ap (λ (s : Layout × Shape). s.1) (field_parts of)) in
    IfErr-weaker c.add_children.result _ _
    (λ fault h. children_refused limits no_indices (field_layout of) (child_shape of) values d mid fault own
    (subst (λ (x : Layout). AreRefusedAfter limits mid.len (child_shape of) (child_values x values) fault) c.requires.whole.0.laid
    (subst (λ (s : Shape). AreRefusedAfter limits mid.len s (child_values view.column.layout values) fault) inner h)))
    c.add_children.ensures.refused

-- ---- the children, one by one

pub add_children-loop-i-init : goal.add_children-loop-i-init
add_children-loop-i-init t c = λ known. columns_none c.args.limits.now known _ c.args.draft.now c.requires.within

pub add_children-child-child-requires : goal.add_children-child-child-requires
add_children-child-child-requires t c =
    let s = c.args.view.now in
    let many = whole_fields c.args.fields.now (nested_in s) _ c.requires.whole in
    let size = length-map s.children (nested s.body) in
    omega (arith, many, size, c.loop-i-test.true)

pub add_children-add_whole-requires : goal.add_children-add_whole-requires
add_children-add_whole-requires t c =
    let of = c.index-fields-i.result in
    let child = c.child-child.result in
    let whole = whole_at c.loop-i.i (shape_of c.args.fields.now) (nested_in c.args.view.now) _ (field_layout of) (child_shape of) child
    (shape_in c.args.fields.now c.loop-i.i of (omega (arith, c.loop-i-test.true)) c.index-fields-i.is)
    c.child-child.ensures c.requires.whole in
    let own = subst (λ (vs : List Value). IsFullColumn (field_layout of) (child_shape of) child vs) (sym whole.0.shows) whole in
    (search (rules, the_lemmas), (own, (c.loop-i.invariant no_indices).body))

pub add_children-loop-i-preserved : goal.add_children-loop-i-preserved
add_children-loop-i-preserved t c = λ known.
    let limits = c.args.limits.now in
    let of = c.index-fields-i.result in
    let child = c.child-child.result in
    let shape = shape_of c.args.fields.now in
    let given = child_values c.args.view.now.column.layout (slot_values c.args.view.now) in
    let at = shape_in c.args.fields.now c.loop-i.i of (omega (arith, c.loop-i-test.true)) c.index-fields-i.is in
    let whole = whole_at c.loop-i.i shape (nested_in c.args.view.now) given (field_layout of) (child_shape of) child
    at c.child-child.ensures c.requires.whole in
    let one = subst (λ (vs : List Value). AddsColumns limits known (field (field_layout of) (child_shape of) bare) (λ j. vs)
    c.loop-i.draft c.add_whole.new.draft) whole.0.shows (c.in_ok-add_whole.ensures.adds known) in
    rw add-one (columns_next limits known c.loop-i.i shape given (field_layout of) (child_shape of) c.args.draft.now c.loop-i.draft
    c.add_whole.new.draft at (c.loop-i.invariant known) one)

pub add_children-returns-in_err-add_whole-clause-refused : goal.add_children-returns-in_err-add_whole-clause-refused
add_children-returns-in_err-add_whole-clause-refused t c =
    let limits = c.args.limits.now in
    let of = c.index-fields-i.result in
    let child = c.child-child.result in
    let shape = shape_of c.args.fields.now in
    let given = child_values c.args.view.now.column.layout (slot_values c.args.view.now) in
    let at = shape_in c.args.fields.now c.loop-i.i of (omega (arith, c.loop-i-test.true)) c.index-fields-i.is in
    let whole = whole_at c.loop-i.i shape (nested_in c.args.view.now) given (field_layout of) (child_shape of) child
    at c.child-child.ensures c.requires.whole in
    let fault = c.in_err-add_whole.field-0.0 in
    let one = subst (λ (vs : List Value). AreRefusedAfter limits c.loop-i.draft.len (field (field_layout of) (child_shape of) bare)
    (λ j. vs) fault) whole.0.shows c.in_err-add_whole.ensures.refused in
    let p = err_from_is_err_and c.from_residual.result c.from_residual.ensures.1 in
    rw (p.1, p.2) (columns_refused limits no_indices c.loop-i.i shape given (field_layout of) (child_shape of) c.args.draft.now
    c.loop-i.draft fault at (c.loop-i.invariant no_indices) one)

pub add_children-returns-clause-adds : goal.add_children-returns-clause-adds
add_children-returns-clause-adds t c = λ known.
    let given = child_values c.args.view.now.column.layout (slot_values c.args.view.now) in
    let all = all_fields c.args.fields.now c.loop-i.i (omega (arith, c.loop-i-test.false, c.loop-i.auto.i-end)) in
    subst (λ (s : Shape). AddsColumns c.args.limits.now known s given c.args.draft.now c.loop-i.draft) all (c.loop-i.invariant known)
