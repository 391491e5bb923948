use Rattle.std.proofs.Common.{◌≡◌, ◌∙◌, sym, ap, subst, ℕ, Some}
use Rattle.std.specs.Prelude.{slice_get}
use Rattle.std.proofs.lemmas.Bool.{eqb-true}
use Rattle.ipc_model.specs.declared.layout.Layout.{Layout}
use Rattle.ipc_column.specs.Nested.{slot_values}
use Rattle.ipc_column.specs.Slots.{nested_in}
use Rattle.ipc_encode.specs.Buffers.{child_values}
use Rattle.ipc_encode.proofs.whole_columns.uses_all_slots.Goals as goal

pub returns-in-Lists-clause-slots : goal.returns-in-Lists-clause-slots
returns-in-Lists-clause-slots c = λ first child is.
    let s = c.args.view.now in
    let laid = sym c.layout.ensures.layout ∙ c.in-Lists.is in
    let zero_th = eqb-true c.args.i 0 first in
    ap (λ (l : Layout). child_values l (slot_values s) c.args.i) laid
    ∙ (c.requires.lists laid).slots child (subst (λ (i : ℕ). slice_get (nested_in s) i ≡ Some child) zero_th is)

pub returns-in-Lists-clause-texts : goal.returns-in-Lists-clause-texts
returns-in-Lists-clause-texts c = λ first child is.
    let s = c.args.view.now in
    let laid = sym c.layout.ensures.layout ∙ c.in-Lists.is in
    let zero_th = eqb-true c.args.i 0 first in
    (c.requires.lists laid).texts child (subst (λ (i : ℕ). slice_get (nested_in s) i ≡ Some child) zero_th is)

pub returns-in-Structs-clause-slots : goal.returns-in-Structs-clause-slots
returns-in-Structs-clause-slots c = λ report child is.
    let s = c.args.view.now in
    ap (λ (l : Layout). child_values l (slot_values s) c.args.i) (sym c.layout.ensures.layout ∙ c.in-Structs.is)
    ∙ c.structs_use_all_slots.ensures.slots report child is

pub returns-in-FixedLists-clause-slots : goal.returns-in-FixedLists-clause-slots
returns-in-FixedLists-clause-slots c = λ report child is. c.fixed_lists_use_all_slots.ensures.slots report child is
