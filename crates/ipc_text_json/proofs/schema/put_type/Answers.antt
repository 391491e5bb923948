use Rattle.ipc_text_json.proofs.schema.put_type.Goals as goal

pub returns-in-Duration-clause-ok : goal.returns-in-Duration-clause-ok
returns-in-Duration-clause-ok c =
    rw c.in-Duration.is (rw c.unit_name-in-Duration.ensures at c.put_name_and_text-in-Duration.ensures.ok)
