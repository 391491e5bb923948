use Rattle.std.proofs.Common.{◌∙◌, sym}
use Rattle.std.proofs.lemmas.Result.{err_from_is_err_and}
use Rattle.ipc_stream_read.proofs.Tables.{schema_full, schema_is, table_broken, table_full, table_read}
use Rattle.ipc_stream_read.proofs.table.read_messages.Goals as goal

pub returns-in_err-batches-clause-table : goal.returns-in_err-batches-clause-table
returns-in_err-batches-clause-table g c =
    let p = err_from_is_err_and c.from_residual-in_err-batches.result c.from_residual-in_err-batches.ensures.1 in
    rw (p.1, p.2) (table_broken _ _ _ _ _ _ _ _ c.new-decoder.ensures.limits c.in_ok-read_schema.ensures.schema
    c.in_err-batches.field-0.0 c.in_err-batches.ensures.batches)

pub returns-clause-table : goal.returns-clause-table
returns-clause-table g c =
    table_read _ _ _ _ _ _ _ _ c.new-decoder.ensures.limits c.in_ok-read_schema.ensures.schema c.in_ok-batches.batches
    c.in_ok-batches.end _
    (schema_is _ _ (g.R.Source.remaining c.args.source.now) _ _ _ _ _ c.new-decoder.ensures.limits c.in_ok-read_schema.ensures.schema _ _
    (sym c.into_schema.ensures ∙ c.unwrap-schema.ensures) c.in_ok-batches.ensures.schema) c.in_ok-batches.ensures.batches

pub returns-in_err-read_schema-clause-memory : goal.returns-in_err-read_schema-clause-memory
returns-in_err-read_schema-clause-memory g c =
    let p = err_from_is_err_and c.from_residual.result c.from_residual.ensures.1 in
    rw (p.1, p.2)
    (schema_full _ _ _ _ _ _ _ c.new-decoder.ensures.limits c.in_err-read_schema.field-0.0 c.in_err-read_schema.ensures.schema)

pub returns-in_err-batches-clause-memory : goal.returns-in_err-batches-clause-memory
returns-in_err-batches-clause-memory g c =
    let p = err_from_is_err_and c.from_residual-in_err-batches.result c.from_residual-in_err-batches.ensures.1 in
    rw (p.1, p.2) (table_full _ _ _ _ _ _ _ _ c.new-decoder.ensures.limits c.in_ok-read_schema.ensures.schema
    c.in_err-batches.field-0.0 c.in_err-batches.ensures.batches)
