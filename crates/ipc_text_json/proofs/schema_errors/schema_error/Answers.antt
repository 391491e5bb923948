use Rattle.std.proofs.Common.{◌∙◌, ap, Some}
use Rattle.ipc_text_json.proofs.schema_errors.schema_error.Goals as goal

pub returns-in-Ok-clause-finds : goal.returns-in-Ok-clause-finds
returns-in-Ok-clause-finds c e =
    let n = c.value_error.ensures.none e in (n.0, n.1, c.in-Ok.ensures.ok ∙ ap Some n.2, n.3, n.4)
