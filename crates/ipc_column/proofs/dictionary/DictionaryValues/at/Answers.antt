use Rattle.std.proofs.Common.{◌∙◌, sym, ap, subst, List, length, Some, ◌<◌, ℕ}
use Rattle.std.specs.Prelude.{slice_get}
use Rattle.ipc_model.specs.declared.value.Value.{Value}
use Rattle.ipc_column.proofs.Alone.{leaf_at, leaf_length}
use Rattle.ipc_column.proofs.dictionary.DictionaryValues.at.Goals as goal

pub slot_in-requires-clause-slot : goal.slot_in-requires-clause-slot
slot_in-requires-clause-slot c =
    subst (λ (n : ℕ). c.args.i < n) (ap (λ (vs : List Value). length vs) (sym c.self.view_is)
    ∙ leaf_length c.self.inside.leaf c.in-Some.leaf c.in-Some.is) c.requires

pub returns-clause-value : goal.returns-clause-value
returns-clause-value c = λ below k.
    let inside = subst (λ (n : ℕ). c.args.i < n) (ap (λ (vs : List Value). length vs) (sym c.self.view_is)
    ∙ leaf_length c.self.inside.leaf c.in-Some.leaf c.in-Some.is) c.requires in
    ap (λ (vs : List Value). slice_get vs c.args.i) (sym c.self.view_is)
    ∙ (leaf_at c.self.inside.leaf c.in-Some.leaf c.args.i c.in-Some.is inside
    ∙ ap (λ (x : Value). Some x) (sym (c.slot_in.ensures.value below k)))
