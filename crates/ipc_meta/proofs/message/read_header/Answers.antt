use Rattle.std.proofs.Common.{◌∙◌, sym, ap}
use Rattle.std.specs.Prelude.{Ok}
use Rattle.std.proofs.lemmas.Result.{err_from_is_err_and}
use Rattle.ipc_meta.specs.FlatFaults.{map_fault}
use Rattle.ipc_meta.proofs.Unique.{dictionary_refused, record_batch_refused}
use Rattle.ipc_scalar.specs.Bytes.{byte}
use Rattle.ipc_meta.specs.Reached.{message, header_type, at_header, of_schema, of_dictionary, of_batch, with_batch}
use Rattle.ipc_meta.proofs.refused.Refused.{bad_number, bad_value}
use Rattle.ipc_meta.proofs.message.read_header.Goals as goal
use Rattle.ipc_meta.proofs.Binds.{lift_ok}

pub returns-in_err-id-in-2-clause-only : goal.returns-in_err-id-in-2-clause-only
returns-in_err-id-in-2-clause-only c = λ h a.
    let p = err_from_is_err_and c.from_residual-in_err-id-in-2.result c.from_residual-in_err-id-in-2.ensures.1 in
    rw (p.1, p.2) (dictionary_refused c.args.limits.now _ _ _ h
    (lift_ok _ _ (ap map_fault (sym c.scalar_u8.ensures) ∙ (sym c.in_ok-code.ensures ∙ ap Ok c.in-2.is)))
    (lift_ok _ _ (ap map_fault (sym c.table.ensures) ∙ (sym c.in_ok-table.ensures ∙ ap Ok c.in-Some.is))) c.in_err-id-in-2.ensures.only a)

pub returns-in_err-code-clause-refused : goal.returns-in_err-code-clause-refused
returns-in_err-code-clause-refused c =
    let p = err_from_is_err_and c.from_residual.result c.from_residual.ensures.1 in
    rw (p.1, p.2) (λ b has ne. bad_number c.args.limits.now b message _ 1 1 byte 0 _ has header_type
    (ap map_fault (sym c.scalar_u8.ensures) ∙ sym c.in_err-code.ensures))

pub returns-in_err-read_schema-in-1-clause-refused : goal.returns-in_err-read_schema-in-1-clause-refused
returns-in_err-read_schema-in-1-clause-refused c =
    let p = err_from_is_err_and c.from_residual-in_err-read_schema-in-1.result c.from_residual-in_err-read_schema-in-1.ensures.1 in
    let code = lift_ok _ _ (ap map_fault (sym c.scalar_u8.ensures) ∙ (sym c.in_ok-code.ensures ∙ ap Ok c.in-1.is)) in
    let table = lift_ok _ _ (ap map_fault (sym c.table.ensures) ∙ (sym c.in_ok-table.ensures ∙ ap Ok c.in-Some.is)) in
    rw (p.1, p.2) (λ b has. c.in_err-read_schema-in-1.ensures.refused b (of_schema has (code, table)))

pub returns-in_err-id-in-2-clause-refused : goal.returns-in_err-id-in-2-clause-refused
returns-in_err-id-in-2-clause-refused c =
    let p = err_from_is_err_and c.from_residual-in_err-id-in-2.result c.from_residual-in_err-id-in-2.ensures.1 in
    let code = lift_ok _ _ (ap map_fault (sym c.scalar_u8.ensures) ∙ (sym c.in_ok-code.ensures ∙ ap Ok c.in-2.is)) in
    let table = lift_ok _ _ (ap map_fault (sym c.table.ensures) ∙ (sym c.in_ok-table.ensures ∙ ap Ok c.in-Some.is)) in
    rw (p.1, p.2) (λ b has. c.in_err-id-in-2.ensures.refused c.args.limits.now b (of_dictionary has (code, table)))

pub returns-in_err-batch-in-3-clause-only : goal.returns-in_err-batch-in-3-clause-only
returns-in_err-batch-in-3-clause-only c = λ h a.
    let p = err_from_is_err_and c.from_residual-in_err-batch-in-3.result c.from_residual-in_err-batch-in-3.ensures.1 in
    rw (p.1, p.2) (record_batch_refused c.args.limits.now _ _ _ h
    (lift_ok _ _ (ap map_fault (sym c.scalar_u8.ensures) ∙ (sym c.in_ok-code.ensures ∙ ap Ok c.in-3.is)))
    (lift_ok _ _ (ap map_fault (sym c.table.ensures) ∙ (sym c.in_ok-table.ensures ∙ ap Ok c.in-Some.is))) c.in_err-batch-in-3.ensures.only
    a)

pub returns-in_err-batch-in-3-clause-refused : goal.returns-in_err-batch-in-3-clause-refused
returns-in_err-batch-in-3-clause-refused c =
    let p = err_from_is_err_and c.from_residual-in_err-batch-in-3.result c.from_residual-in_err-batch-in-3.ensures.1 in
    let code = lift_ok _ _ (ap map_fault (sym c.scalar_u8.ensures) ∙ (sym c.in_ok-code.ensures ∙ ap Ok c.in-3.is)) in
    let table = lift_ok _ _ (ap map_fault (sym c.table.ensures) ∙ (sym c.in_ok-table.ensures ∙ ap Ok c.in-Some.is)) in
    rw (p.1, p.2) (λ b has. c.in_err-batch-in-3.ensures.refused b (of_batch has (code, table)) (with_batch has (code, table)))

pub returns-in_err-table-clause-refused : goal.returns-in_err-table-clause-refused
returns-in_err-table-clause-refused c =
    let p = err_from_is_err_and c.from_residual-in_err-table.result c.from_residual-in_err-table.ensures.1 in
    let code = lift_ok _ _ (ap map_fault (sym c.scalar_u8.ensures) ∙ sym c.in_ok-code.ensures) in
    rw (p.1, p.2) (λ b has ne. bad_value c.args.limits.now b _ 2 _
    (at_header has code (c.is_header_code.ensures.yes c.if-not-is_header_code.false))
    (ap map_fault (sym c.table.ensures) ∙ sym c.in_err-table.ensures))
