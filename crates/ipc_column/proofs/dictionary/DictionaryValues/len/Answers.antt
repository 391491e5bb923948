use Rattle.std.proofs.Common.{◌∙◌, sym, ap, List, length}
use Rattle.ipc_model.specs.declared.value.Value.{Value}
use Rattle.ipc_column.proofs.Alone.{leaf_length}
use Rattle.ipc_column.proofs.dictionary.DictionaryValues.len.Goals as goal

pub returns-in-Some : goal.returns-in-Some
returns-in-Some c =
    sym (leaf_length c.self.inside.leaf c.in-Some.leaf c.in-Some.is) ∙ ap (λ (vs : List Value). length vs) c.self.view_is
