use Rattle.std.proofs.Common.{ℕ, sym, subst, List, ◌≤◌}
use Rattle.std.proofs.lemmas.Result.{err_from_is_err_and}
use Rattle.ipc_model.specs.declared.limits.Limits.{Limits}
use Rattle.ipc_column.specs.Shapes.{shape_of}
use Rattle.ipc_encode.specs.Buffers.{row_columns}
use Rattle.ipc_encode.specs.Built.{HoldColumns}
use Rattle.ipc_encode.specs.Faults.{write_fault}
use Rattle.ipc_encode.specs.Limits.{IsWithin}
use Rattle.ipc_encode.specs.Numbers.{new_indices}
use Rattle.ipc_encode.specs.Segments.{bytes_of_segments}
use Rattle.ipc_encode.specs.declared.tree.Node.{Node}
use Rattle.ipc_encode.proofs.Reading.{rows_of_parts}
use Rattle.ipc_encode.proofs.SegmentColumns.{only_memory, rows_refused_after, segmented}
use Rattle.ipc_encode.proofs.builder.Builder.finish.Goals as goal

pub returns-in_err-add_nodes-clause-refused : goal.returns-in_err-add_nodes-clause-refused
returns-in_err-add_nodes-clause-refused g c = λ known limits fields rows h.
    let held = subst (λ (ns : List Node). HoldColumns known c.args.self.bounds (shape_of fields) ns (row_columns rows))
    (sym c.deref_mut.ensures.value) h.columns_are in
    let few = subst (λ (l : Limits). c.args.self.bounds.slots ≤ l.slots) (sym h.limits_are) h.bounded.few in
    let p = err_from_is_err_and c.from_residual.result c.from_residual.ensures.1 in
    rw (p.1, p.2) (only_memory c.args.self.limits fields rows (write_fault c.in_err-add_nodes.field-0.0)
    (subst (λ (l : Limits). IsWithin l fields rows) (sym h.limits_are) h.within)
    (rows_refused_after c.args.self.limits fields rows c.new-draft.result.len c.in_err-add_nodes.field-0.0 c.new-draft.ensures.len
    (c.in_err-add_nodes.ensures.refused known c.args.self.bounds (shape_of fields) (row_columns rows) few held)))

pub returns-clause-segmented : goal.returns-clause-segmented
returns-clause-segmented g c = λ known limits fields rows h.
    let held = subst (λ (ns : List Node). HoldColumns known c.args.self.bounds (shape_of fields) ns (row_columns rows))
    (sym c.deref_mut.ensures.value) h.columns_are in
    let few = subst (λ (l : Limits). c.args.self.bounds.slots ≤ l.slots) (sym h.limits_are) h.bounded.few in
    segmented c.args.self.limits (new_indices (g.N.Renumber.number c.args.numbers.now) known) fields rows c.new-draft.result
    c.add_nodes.new.draft c.finish.result c.new-draft.ensures
    (c.in_ok-add_nodes.ensures.adds known c.args.self.bounds (shape_of fields) (row_columns rows) few held) c.finish.ensures

pub returns-clause-rows : goal.returns-clause-rows
returns-clause-rows g c = λ known limits fields rows m h fine fits finds.
    let other = new_indices (g.N.Renumber.number c.args.numbers.now) known in
    let held = subst (λ (ns : List Node). HoldColumns known c.args.self.bounds (shape_of fields) ns (row_columns rows))
    (sym c.deref_mut.ensures.value) h.columns_are in
    let few = subst (λ (l : Limits). c.args.self.bounds.slots ≤ l.slots) (sym h.limits_are) h.bounded.few in
    let adds = c.in_ok-add_nodes.ensures.adds known c.args.self.bounds (shape_of fields) (row_columns rows) few held in
    let parts = segmented c.args.self.limits other fields rows c.new-draft.result c.add_nodes.new.draft c.finish.result
    c.new-draft.ensures adds c.finish.ensures in
    rows_of_parts m other fields rows c.finish.result.nodes c.finish.result.buffers (bytes_of_segments c.finish.result.segments.items)
    fine fits h.within adds.stores finds parts.nodes parts.buffers parts.body

pub returns-clause-body : goal.returns-clause-body
returns-clause-body g c = λ known limits fields rows h.
    subst (λ (l : Limits). c.finish.result.len ≤ l.body) h.limits_are
    (subst (λ (n : ℕ). n ≤ c.args.self.limits.body) (sym c.finish.ensures.len) c.in_ok-add_nodes.ensures.within)
