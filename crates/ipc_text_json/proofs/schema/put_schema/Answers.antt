use Rattle.std.proofs.lemmas.Result.{on_ok_weaker}
use Rattle.ipc_text_json.proofs.FieldTokens.{schema_tokens}
use Rattle.ipc_text_json.proofs.schema.put_schema.Goals as goal

pub returns-clause-ok : goal.returns-clause-ok
returns-clause-ok c =
    on_ok_weaker c.end_object.result
    (schema_tokens _ _ _ _ _ _ _ _ _ _ c.args.schema.now c.in_ok-begin_object.ensures.ok c.in_ok-key.ensures.ok
    c.in_ok-begin_array.ensures.ok (rw c.as_slice.ensures at c.in_ok-put_fields.ensures.ok) c.in_ok-end_array.ensures.ok
    c.in_ok-key-2.ensures.ok c.in_ok-begin_array-2.ensures.ok (rw c.as_slice-2.ensures at c.in_ok-put_pairs.ensures.ok))
    c.end_object.ensures.ok
