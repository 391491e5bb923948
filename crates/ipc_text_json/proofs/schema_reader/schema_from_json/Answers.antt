use Rattle.std.proofs.Common.{◌∙◌, ap}
use Rattle.serde_json.specs.Read.{read}
use Rattle.ipc_text_json.proofs.SchemaBack.{schema_read}
use Rattle.ipc_text_json.proofs.schema_reader.schema_from_json.Goals as goal

pub returns-clause-back : goal.returns-clause-back
returns-clause-back c s limits is standard formed wide =
    c.read_text_of.ensures.all s limits (ap read is ∙ schema_read limits s standard formed wide) standard formed wide
