use Rattle.std.proofs.Common.{◌∙◌}
use Rattle.ipc_meta.proofs.written.WrittenTrees.{dictionary_more}
use Rattle.ipc_meta.proofs.type_slots.push_dictionary.Goals as goal

pub returns-in_ok-push : goal.returns-in_ok-push
returns-in_ok-push c = dictionary_more _ _ c.table_of-encoding.result c.in-Some.dictionary c.args.dictionary c.in_ok-push.ensures.items
    (c.table_of-encoding.ensures ∙ c.in_ok-dictionary_slots.ensures) c.in-Some.is
