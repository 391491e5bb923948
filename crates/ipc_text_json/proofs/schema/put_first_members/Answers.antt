use Rattle.std.proofs.lemmas.Result.{on_ok_weaker}
use Rattle.ipc_text_json.proofs.FieldTokens.{three_and_two}
use Rattle.ipc_text_json.proofs.schema.put_first_members.Goals as goal

pub returns-clause-ok : goal.returns-clause-ok
returns-clause-ok c =
    on_ok_weaker c.put_pairs.result
    (three_and_two _ _ _ _ _ _ _ _ _ _ _ _ _ _ _ c.in_ok-key.ensures.ok (rw c.len.ensures at c.in_ok-u64.ensures.ok)
    c.in_ok-key-2.ensures.ok c.in_ok-put_dictionary.ensures.ok c.in_ok-key-3.ensures.ok c.in_ok-begin_array.ensures.ok)
    (rw c.as_slice.ensures at c.put_pairs.ensures.ok)
