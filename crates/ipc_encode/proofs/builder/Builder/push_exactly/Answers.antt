use Rattle.std.proofs.Common.{◌∙◌, sym, ap, subst, ℕ, ◌++◌, List, [], ◌∷◌, length-append, arith}
use Rattle.std.proofs.lemmas.Result.{err_from_is_err_and}
use Rattle.ipc_model.specs.declared.limits.Limits.{Limits}
use Rattle.ipc_model.specs.declared.value.Value.{Value}
use Rattle.ipc_column.specs.Shapes.{shape_of}
use Rattle.ipc_encode.specs.declared.builder.Builder.{Builder}
use Rattle.ipc_encode.specs.declared.fault.PushFault.TheVariants.{TooLong}
use Rattle.ipc_encode.specs.declared.tree.Node.{Node}
use Rattle.ipc_encode.specs.Buffers.{row_columns}
use Rattle.ipc_encode.specs.Built.{HoldColumns}
use Rattle.ipc_encode.specs.Cells.{cell}
use Rattle.ipc_encode.specs.Faults.{write_fault}
use Rattle.ipc_encode.specs.Limits.{AreRowsRefused, IsWithin}
use Rattle.ipc_encode.specs.Numbers.{known_indices}
use Rattle.ipc_encode.proofs.Beginnings.{nodes_begin, nodes_less}
use Rattle.ipc_encode.proofs.Held.{built_within, columns_push, still_stored, unshared}
use Rattle.ipc_encode.proofs.builder.Builder.push_exactly.Goals as goal

pub returns-in_err-all-clause-refused : goal.returns-in_err-all-clause-refused
returns-in_err-all-clause-refused g c = λ limits fields rows before.
    let known = known_indices (g.I.IndexOf.index c.args.indices.now) in
    let start = unshared known limits fields rows c.args.self.now c.unshare.new.self c.unshare.ensures before in
    let same = ap (λ (b : Builder). b.bounds) c.unshare.ensures ∙ before.limits_are in
    let p = err_from_is_err_and c.from_residual.result c.from_residual.ensures.1 in
    rw (p.1, p.2) (subst (λ (l : Limits). AreRowsRefused l fields (rows ++ c.args.row.now ∷ []) (write_fault c.in_err-all.field-0.0))
    same (c.in_err-all.ensures.refused limits fields rows start))

pub returns-in_err-all-clause-kept : goal.returns-in_err-all-clause-kept
returns-in_err-all-clause-kept g c = λ limits fields rows before.
    let known = known_indices (g.I.IndexOf.index c.args.indices.now) in
    let start = unshared known limits fields rows c.args.self.now c.unshare.new.self c.unshare.ensures before in
    let p = err_from_is_err_and c.from_residual.result c.from_residual.ensures.1 in
    rw (p.1, p.2) (λ other.
    still_stored known limits fields rows c.append.new.self before.within (c.in_err-all.ensures.kept limits fields rows start other))

pub returns-in-Ok-clause-pushed : goal.returns-in-Ok-clause-pushed
returns-in-Ok-clause-pushed g c = λ limits fields rows before.
    let known = known_indices (g.I.IndexOf.index c.args.indices.now) in
    let builder = c.append.new.self in
    let next = rows ++ c.args.row.now ∷ [] in
    let start = unshared known limits fields rows c.args.self.now c.unshare.new.self c.unshare.ensures before in
    let held = c.in_ok-all.ensures.appended limits fields rows start in
    let wide = c.append.ensures.bounds ∙ (ap (λ (b : Builder). b.bounds) c.unshare.ensures ∙ (before.limits_are ∙ sym held.limits_are)) in
    let columns = subst (λ (l : Limits). HoldColumns known l (shape_of fields) builder.nodes.items (row_columns next)) wide
    held.columns_are in
    let lent = subst (λ (ns : List Node). HoldColumns known builder.limits (shape_of fields) ns (row_columns next))
    (sym c.deref.ensures.value) columns in
    let size = length-append rows (c.args.row.now ∷ []) in
    let same = ap (λ (l : Limits). l.slots) (held.limits_are ∙ sym before.limits_are) in
    record {
      limits_are = held.limits_are;
      works = held.works;
      count = held.count;
      bounded = held.bounded;
      columns_are = held.columns_are;
      within = subst (λ (l : Limits). IsWithin l fields next) held.limits_are
          (built_within known builder.limits fields next c.deref.result.now
          (omega (arith, size, before.count, c.requires, same)) lent (c.in-Ok.ensures.within known fields next lent));
    }

pub returns-in-Err-clause-refused : goal.returns-in-Err-clause-refused
returns-in-Err-clause-refused g c = λ limits fields rows before.
    let known = known_indices (g.I.IndexOf.index c.args.indices.now) in
    let builder = c.append.new.self in
    let next = rows ++ c.args.row.now ∷ [] in
    let start = unshared known limits fields rows c.args.self.now c.unshare.new.self c.unshare.ensures before in
    let held = c.in_ok-all.ensures.appended limits fields rows start in
    let wide = c.append.ensures.bounds ∙ (ap (λ (b : Builder). b.bounds) c.unshare.ensures ∙ (before.limits_are ∙ sym held.limits_are)) in
    let lent = subst (λ (ns : List Node). HoldColumns known builder.limits (shape_of fields) ns (row_columns next))
    (sym c.deref.ensures.value)
    (subst (λ (l : Limits). HoldColumns known l (shape_of fields) builder.nodes.items (row_columns next)) wide held.columns_are) in
    subst (λ (l : Limits). AreRowsRefused l fields next (write_fault TooLong)) held.limits_are
    (c.in-Err.ensures.refused known fields next lent).1

pub returns-in-Err-clause-kept : goal.returns-in-Err-clause-kept
returns-in-Err-clause-kept g c = λ limits fields rows before other.
    let known = known_indices (g.I.IndexOf.index c.args.indices.now) in
    let bounds = c.append.new.self.bounds in
    let nodes = c.append.new.self.nodes.items in
    let row = c.args.row.now in
    let start = unshared known limits fields rows c.args.self.now c.unshare.new.self c.unshare.ensures before in
    let held = c.in_ok-all.ensures.appended limits fields rows start in
    let begun = nodes_less known bounds (shape_of fields) nodes (row_columns rows) (λ j. cell j row ∷ [])
    (nodes_begin known bounds (shape_of fields) nodes (λ j. row_columns rows j ++ cell j row ∷ [])
    (subst (λ (given : ℕ → List Value). HoldColumns known bounds (shape_of fields) nodes given) (sym (columns_push rows row))
    held.columns_are)) in
    still_stored known limits fields rows c.cut_row.new.self before.within (c.cut_row.ensures.rows known limits fields rows (record {
      limits_are = held.limits_are;
      count = start.count;
      bounded = record { few = held.bounded.few; less = held.bounded.less; shared = held.bounded.shared };
      columns_begin = begun;
    }))
