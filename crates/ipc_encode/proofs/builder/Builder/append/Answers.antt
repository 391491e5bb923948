use Rattle.std.proofs.Common.{◌≡◌, ◌∙◌, refl, sym, subst, ℕ, ◌++◌, List, [], ◌∷◌, length, length-append, arith}
use Rattle.std.proofs.lemmas.List.{with_items_is}
use Rattle.ipc_model.specs.declared.value.Value.{Value}
use Rattle.ipc_column.specs.Shapes.{shape_of}
use Rattle.ipc_encode.specs.declared.tree.Node.{Node}
use Rattle.ipc_encode.specs.Buffers.{row_columns}
use Rattle.ipc_encode.specs.Built.{AreNodes, ArePushesRefused, BeginsWith, HoldColumns}
use Rattle.ipc_encode.specs.Numbers.{known_indices}
use Rattle.ipc_encode.proofs.Held.{columns_push, rows_refused}
use Rattle.ipc_encode.proofs.builder.Builder.append.Goals as goal

pub returns-in-Ok-clause-appended : goal.returns-in-Ok-clause-appended
returns-in-Ok-clause-appended g c = λ limits fields rows before.
    let known = known_indices (g.I.IndexOf.index c.args.indices.now) in
    let builder = c.args.self.now in
    let next = rows ++ c.args.row.now ∷ [] in
    let held = subst (λ (ns : List Node). HoldColumns known builder.bounds (shape_of fields) ns (row_columns rows))
    (sym c.deref_mut.ensures.value) before.columns_are in
    let more = subst (λ (given : ℕ → List Value). HoldColumns known builder.bounds (shape_of fields) c.append_parts.new.nodes given)
    (columns_push rows c.args.row.now) (c.in-Ok.ensures.appended (shape_of fields) (row_columns rows) held).appended in
    let size : length c.append_parts.new.nodes ≡ builder.nodes.len = c.append_parts.auto.nodes ∙ c.deref_mut.ensures.len in
    let count = length-append rows (c.args.row.now ∷ []) in
    record {
      limits_are = before.limits_are;
      works = refl;
      count = omega (arith, count, before.count);
      bounded = record { few = before.bounded.few; less = before.bounded.less; shared = before.bounded.shared };
      columns_are = subst (λ (ns : List Node). HoldColumns known builder.bounds (shape_of fields) ns (row_columns next))
          (sym (with_items_is builder.nodes c.append_parts.new.nodes size)) more;
    }

pub returns-in-Err-clause-refused : goal.returns-in-Err-clause-refused
returns-in-Err-clause-refused g c = λ limits fields rows before.
    let known = known_indices (g.I.IndexOf.index c.args.indices.now) in
    let builder = c.args.self.now in
    let next = rows ++ c.args.row.now ∷ [] in
    let held = subst (λ (ns : List Node). HoldColumns known builder.bounds (shape_of fields) ns (row_columns rows))
    (sym c.deref_mut.ensures.value) before.columns_are in
    let fault = c.in-Err.fault in
    rows_refused builder.bounds fields next fault
    (subst (λ (given : ℕ → List Value). ArePushesRefused builder.bounds (shape_of fields) given fault)
    (columns_push rows c.args.row.now) (c.in-Err.ensures.appended (shape_of fields) (row_columns rows) held).refused)

pub returns-in-Err-clause-kept : goal.returns-in-Err-clause-kept
returns-in-Err-clause-kept g c = λ limits fields rows before other.
    let known = known_indices (g.I.IndexOf.index c.args.indices.now) in
    let builder = c.args.self.now in
    let held = subst (λ (ns : List Node). HoldColumns known builder.bounds (shape_of fields) ns (row_columns rows))
    (sym c.deref_mut.ensures.value) before.columns_are in
    let size : length c.append_parts.new.nodes ≡ builder.nodes.len = c.append_parts.auto.nodes ∙ c.deref_mut.ensures.len in
    let begun = (c.in-Err.ensures.appended (shape_of fields) (row_columns rows) held).begun other in
    c.cut_row.ensures.rows known limits fields rows (record {
      limits_are = before.limits_are;
      count = before.count;
      bounded = record { few = before.bounded.few; less = before.bounded.less; shared = before.bounded.shared };
      columns_begin = subst (λ (ns : List Node). AreNodes (BeginsWith known builder.bounds) (shape_of fields) ns (row_columns rows))
          (sym (with_items_is builder.nodes c.append_parts.new.nodes size)) begun;
    })
