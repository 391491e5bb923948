use Rattle.std.proofs.lemmas.Result.{on_ok_weaker}
use Rattle.ipc_text_json.proofs.FieldTokens.{five}
use Rattle.ipc_text_json.proofs.schema.put_last_members.Goals as goal

pub returns-clause-ok : goal.returns-clause-ok
returns-clause-ok c =
    on_ok_weaker c.put_type.result
    (five _ _ _ _ _ _ _ _ _ _ _ _ _ c.in_ok-key.ensures.ok (rw c.as_str.ensures at c.in_ok-string.ensures.ok)
    c.in_ok-key-2.ensures.ok c.in_ok-boolean.ensures.ok c.in_ok-key-3.ensures.ok)
    c.put_type.ensures.ok
