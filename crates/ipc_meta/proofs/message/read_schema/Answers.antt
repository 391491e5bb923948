use Rattle.std.proofs.Common.{ap}
use Rattle.std.specs.Prelude.{Ok}
use Rattle.std.proofs.lemmas.Result.{err_from_is_err_and}
use Rattle.ipc_meta.proofs.Sound.{pairs_sound, fields_sound, field_sound}
use Rattle.ipc_meta.proofs.Complete.{schema_complete}
use Rattle.ipc_meta.proofs.Unique.{schema_same, refused, fields_refused, check_refused}
use Rattle.ipc_meta.specs.Reading.{field_read}
use Rattle.ipc_meta.proofs.refused.RefusedSchemas as report
use Rattle.ipc_meta.proofs.refused.RefusedFields.{own_pairs_refused, columns_refused}
use Rattle.ipc_meta.proofs.message.read_schema.Goals as goal

pub returns-clause-finds : goal.returns-clause-finds
returns-clause-finds c = record {
  little_endian = c.in_ok-check_endianness.ensures.ok;
  fields = fields_sound (field_read _) (field_sound _) _ _ _ _ _ c.in_ok-fields.ensures;
  pairs = pairs_sound _ _ _ _ _ c.in_ok-metadata.ensures;
  well_formed = c.in_ok-check.ensures.ok;
}

pub returns-clause-only : goal.returns-clause-only
returns-clause-only c = λ s h. ap Ok (schema_same _ s _ h (returns-clause-finds c))

pub returns-in_err-metadata-clause-only : goal.returns-in_err-metadata-clause-only
returns-in_err-metadata-clause-only c = λ s h.
    let p = err_from_is_err_and c.from_residual-in_err-metadata.result c.from_residual-in_err-metadata.ensures.1 in
    rw (p.1, p.2) (refused _ _ _ s (schema_complete _ s h).pairs c.in_err-metadata.ensures)

pub returns-in_err-fields-clause-only : goal.returns-in_err-fields-clause-only
returns-in_err-fields-clause-only c = λ s h.
    let p = err_from_is_err_and c.from_residual-in_err-fields.result c.from_residual-in_err-fields.ensures.1 in
    rw (p.1, p.2) (fields_refused _ s _ _ _ h c.in_ok-metadata.ensures c.in_err-fields.ensures)

pub returns-in_err-check-clause-only : goal.returns-in_err-check-clause-only
returns-in_err-check-clause-only c = λ s h.
    let p = err_from_is_err_and c.from_residual-in_err-check.result c.from_residual-in_err-check.ensures.1 in
    rw (p.1, p.2) (check_refused _ s _ _ _ _ _ h c.in_ok-metadata.ensures c.in_ok-fields.ensures c.in_err-check.ensures.bad)

pub returns-in_err-metadata-clause-refused : goal.returns-in_err-metadata-clause-refused
returns-in_err-metadata-clause-refused c =
    let p = err_from_is_err_and c.from_residual-in_err-metadata.result c.from_residual-in_err-metadata.ensures.1 in
    rw (p.1, p.2) (λ b has ne. own_pairs_refused c.args.limits.now b _ _ has (c.in_err-metadata.ensures ne))

pub returns-in_err-fields-clause-refused : goal.returns-in_err-fields-clause-refused
returns-in_err-fields-clause-refused c =
    let p = err_from_is_err_and c.from_residual-in_err-fields.result c.from_residual-in_err-fields.ensures.1 in
    rw (p.1, p.2) (λ b has ne. columns_refused c.args.limits.now b _ _ _ has c.in_ok-metadata.ensures (c.in_err-fields.ensures ne))

pub returns-in_err-check-clause-refused : goal.returns-in_err-check-clause-refused
returns-in_err-check-clause-refused c =
    let p = err_from_is_err_and c.from_residual-in_err-check.result c.from_residual-in_err-check.ensures.1 in
    rw (p.1, p.2) (λ b has ne.
    report.check_refused b _ (record { fields = c.in_ok-fields.fields; metadata = c.in_ok-metadata.metadata }) _ _ _ _ has
    c.in_ok-metadata.ensures c.in_ok-fields.ensures c.in_err-check.ensures.first ne)

pub returns-in_err-check_endianness-clause-refused : goal.returns-in_err-check_endianness-clause-refused
returns-in_err-check_endianness-clause-refused c =
    let p = err_from_is_err_and c.from_residual.result c.from_residual.ensures.1 in
    rw (p.1, p.2) (λ b has ne. c.in_err-check_endianness.ensures.refused c.args.limits.now b has)
