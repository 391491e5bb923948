use Rattle.std.proofs.lemmas.Result.{on_ok_weaker}
use Rattle.ipc_text_json.proofs.FieldTokens.{three_and_one}
use Rattle.ipc_text_json.proofs.schema.put_timestamp.Goals as goal

pub returns-clause-ok : goal.returns-clause-ok
returns-clause-ok c =
    on_ok_weaker c.end_array.result
    (three_and_one _ _ _ _ _ _ _ _ _ _ _ c.in_ok-begin_array.ensures.ok c.in_ok-string.ensures.ok
    (rw c.unit_name.ensures at c.in_ok-string-2.ensures.ok) c.in_ok-put_text_or_null.ensures.ok)
    c.end_array.ensures.ok
