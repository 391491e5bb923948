use Rattle.std.proofs.Common.{◌∙◌, Ok, ap, inl, sym}
use Rattle.serde_json.specs.Read.{read}
use Rattle.job_explain.proofs.schemas.explain_schema.Goals as goal

pub returns-in-Ok-None : goal.returns-in-Ok-None
returns-in-Ok-None c =
    let found = c.schema_error.ensures.finds (c.in-Ok-None.is ∙ ap Ok c.in-Ok-None.field-0-is) in
    record { explains = inl (c.new.ensures.items, (found.0, found.1, ap read (sym c.in-Ok.ensures.cases.0) ∙ found.2, found.3, found.4)) }
