use Rattle.std.proofs.Common.{ap, subst}
use Rattle.ipc_column.specs.Lent.{AreFound}
use Rattle.ipc_column.specs.Nested.{Nested, child_columns}
use Rattle.ipc_column.proofs.lending.Lendings.{found_children, found_long, found_order}
use Rattle.ipc_column.proofs.slot_view.SlotView.buffers.Goals as goal

pub returns : goal.returns
returns c = record {
  layout = ap (λ (n : Nested). n.column.layout) c.self.view_is;
  validity = ap (λ (n : Nested). n.column.validity) c.self.view_is;
  offsets = ap (λ (n : Nested). n.column.offsets) c.self.view_is;
  values = ap (λ (n : Nested). n.column.values) c.self.view_is;
  long_enough = found_long c.args.self.now.column (child_columns c.args.self.now) whole;
  in_order = found_order c.args.self.now.column (child_columns c.args.self.now) whole;
  long_children = found_children c.args.self.now.column (child_columns c.args.self.now) whole;
}
  where
    whole : AreFound c.args.self.now.column (child_columns c.args.self.now)
    whole = subst (λ (n : Nested). AreFound n.column (child_columns n)) c.self.view_is c.self.invariant
