use Rattle.std.proofs.Common.{◌∙◌, sym, ap, subst, length, ◌<◌, Some}
use Rattle.std.specs.Prelude.{slice_get}
use Rattle.ipc_column.specs.declared.ranges.ColumnRanges.{ColumnRanges}
use Rattle.ipc_column.specs.Lent.{AreFound}
use Rattle.ipc_column.specs.Nested.{Nested}
use Rattle.ipc_column.specs.Slots.{nested, nested_in}
use Rattle.ipc_column.specs.Views.{column_of, children_of}
use Rattle.ipc_column.proofs.visited.Leads.{child_found, nested_at}
use Rattle.ipc_column.proofs.slot_view.SlotView.child.Goals as goal

pub slots_of-requires : goal.slots_of-requires
slots_of-requires c =
    let s = c.self.inside in
    let inside : c.args.i < length s.children.now = subst (λ (n : Nested). c.args.i < length n.children) (sym c.self.view_is) c.requires in
    subst (λ (p : ColumnRanges). AreFound (column_of s.body.now p) (children_of s.body.now p)) c.index-self-i.is
    (child_found s.body.now s.children.now c.args.i c.index-self-i.result inside c.index-self-i.is c.self.invariant.sound)

pub returns : goal.returns
returns c =
    let s = c.self.inside in
    let inside : c.args.i < length s.children.now = subst (λ (n : Nested). c.args.i < length n.children) (sym c.self.view_is) c.requires in
    ap (λ (n : Nested). slice_get (nested_in n) c.args.i) (sym c.self.view_is)
    ∙ (nested_at s.body.now s.children.now c.args.i c.index-self-i.result inside c.index-self-i.is
    ∙ (ap (λ (p : ColumnRanges). Some (nested s.body.now p)) c.index-self-i.is
    ∙ ap (λ (n : Nested). Some n) (sym c.slots_of.ensures)))
