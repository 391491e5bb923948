use Rattle.std.proofs.Common.{◌∙◌, sym, subst, List}
use Rattle.std.specs.List.{AllByRecursion}
use Rattle.ipc_model.specs.Layouts.{type_layout}
use Rattle.ipc_model.specs.declared.layout.Layout.{Layout}
use Rattle.ipc_model.specs.declared.value.Value.{Value}
use Rattle.ipc_column.specs.Nested.{slot_values}
use Rattle.ipc_column.specs.checks.Plain.{IsShownBy}
use Rattle.ipc_conform.proofs.FittingColumns.{indexed_shown}
use Rattle.ipc_conform.proofs.conforming.shows_type.Goals as goal

pub returns-then-are_equal_layouts-clause-shows : goal.returns-then-are_equal_layouts-clause-shows
returns-then-are_equal_layouts-clause-shows c = λ yes.
    subst (λ (l : Layout). AllByRecursion (IsShownBy l) (slot_values c.args.view.now))
    (c.are_equal_layouts.ensures c.if-are_equal_layouts.true ∙ c.layout_of-layout.ensures) c.layout.ensures.values

pub returns-in-Some-clause-shows : goal.returns-in-Some-clause-shows
returns-in-Some-clause-shows c = λ alike.
    let laid = c.is_indexed.ensures c.if-not-is_indexed.false in
    let same = c.are_equal_layouts-in-Some.ensures alike ∙ c.layout_of-layout.ensures in
    let own = subst (λ (l : Layout). AllByRecursion (IsShownBy l) c.args.view.now.column.dictionary) same
    (subst (λ (vs : List Value). AllByRecursion (IsShownBy c.layout-in-Some.result) vs) c.in-Some.ensures.values
    c.layout-in-Some.ensures.values) in
    indexed_shown c.args.view.now (type_layout c.args.kind.now) laid.0 laid.1.0 laid.1.1.0 (sym c.layout-2.ensures.layout ∙ laid.1.1.1) own
