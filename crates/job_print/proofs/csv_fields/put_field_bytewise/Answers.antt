use Rattle.std.proofs.Common.{◌∙◌, sym}
use Rattle.job_print.proofs.texts.Quotes.{field_quoted}
use Rattle.job_print.proofs.csv_fields.put_field_bytewise.Goals as goal

pub returns-then-needs_quotes : goal.returns-then-needs_quotes
returns-then-needs_quotes c =
    let needs = sym c.needs_quotes.ensures ∙ c.if-needs_quotes.true in
    rw (← (field_quoted c.args.delimiter c.args.out.now.text c.args.field.now needs)) c.put_quoted.ensures
