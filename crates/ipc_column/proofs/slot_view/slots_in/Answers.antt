use Rattle.std.proofs.Common.{sym, subst, ap, ◌∙◌, ℕ, List, Some, ◌<◌, length}
use Rattle.std.specs.Prelude.{slice_get}
use Rattle.ipc_model.specs.declared.layout.Layout.{Layout}
use Rattle.ipc_column.specs.Lent.{AreOfColumn}
use Rattle.ipc_column.specs.Nested.{Nested, only_column, slot_values}
use Rattle.ipc_column.specs.checks.Rules.{HasUtf8Texts}
use Rattle.ipc_column.specs.Values.{rows_of}
use Rattle.ipc_column.specs.Views.{part_columns}
use Rattle.ipc_column.proofs.visited.Leads.{nested_at}
use Rattle.ipc_column.proofs.lending.Lent.{layout_at, nested_layouts, slots_found, slots_texts, slots_values}
use Rattle.ipc_column.proofs.slot_view.slots_in.Goals as goal

pub slots_of-requires : goal.slots_of-requires
slots_of-requires c =
    slots_found c.args.body.now c.args.parts.now c.args.rows c.args.column c.index-parts-column.result c.requires.column
    c.index-parts-column.is c.requires.holds

pub returns-clause-column : goal.returns-clause-column
returns-clause-column c =
    nested_at c.args.body.now c.args.parts.now c.args.column c.index-parts-column.result c.requires.column c.index-parts-column.is
    ∙ ap (λ (n : Nested). Some n) (sym c.slots_of.ensures)

pub returns-clause-layout : goal.returns-clause-layout
returns-clause-layout c =
    ap (λ (ls : List Layout). slice_get ls c.args.column) (nested_layouts c.args.body.now c.args.parts.now)
    ∙ layout_at c.args.body.now c.args.parts.now c.args.column c.index-parts-column.result c.requires.column c.index-parts-column.is
    ∙ ap (λ (n : Nested). Some n.column.layout) (sym c.slots_of.ensures)

pub returns-clause-values : goal.returns-clause-values
returns-clause-values c =
    subst (λ (n : Nested). AreOfColumn (rows_of (part_columns c.args.body.now c.args.parts.now) c.args.rows) c.args.column (slot_values n))
    (sym c.slots_of.ensures)
    (slots_values c.args.body.now c.args.parts.now c.args.rows c.args.column c.index-parts-column.result c.requires.column
    c.index-parts-column.is c.requires.holds)

pub returns-clause-texts : goal.returns-clause-texts
returns-clause-texts c =
    subst (λ (n : Nested). (i : ℕ) → i < length (slot_values n) → HasUtf8Texts (only_column n) i) (sym c.slots_of.ensures)
    (slots_texts c.args.body.now c.args.parts.now c.args.rows c.args.column c.index-parts-column.result c.requires.column
    c.index-parts-column.is c.requires.holds)
