use Rattle.std.proofs.Common.{◌∙◌, ap}
use Rattle.serde_json.specs.Read.{read}
use Rattle.ipc_text_json.proofs.StatedSchemas.{stated, unstated}
use Rattle.ipc_text_json.proofs.schema_reader.schema_from_json_bytes.Goals as goal

pub returns-clause-read : goal.returns-clause-read
returns-clause-read c = stated _ _ _ c.in-Ok.ensures.cases.0 c.in-Ok.ensures.cases.1 c.schema_from_json.ensures.read

pub returns-clause-all : goal.returns-clause-all
returns-clause-all c s is ids =
    c.schema_from_json.ensures.all s is.limits (ap read c.in-Ok.ensures.cases.0 ∙ is.json) is.standard is.well_formed ids

pub returns-clause-refused : goal.returns-clause-refused
returns-clause-refused c =
    unstated _ _ _ c.in-Ok.ensures.cases.0 c.schema_from_json.ensures.refused c.schema_from_json.ensures.all
