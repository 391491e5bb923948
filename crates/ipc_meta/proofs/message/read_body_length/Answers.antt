use Rattle.std.proofs.Common.{◌∙◌, sym, ap, pos}
use Rattle.std.proofs.lemmas.Result.{err_from_is_err_and}
use Rattle.ipc_scalar.specs.Bytes.{int64}
use Rattle.ipc_meta.specs.FlatFaults.{map_fault}
use Rattle.ipc_meta.specs.Reached.{message, body_length}
use Rattle.ipc_meta.proofs.refused.Refused.{bad_number}
use Rattle.ipc_meta.proofs.message.read_body_length.Goals as goal

pub returns-in_err-length-clause-refused : goal.returns-in_err-length-clause-refused
returns-in_err-length-clause-refused c =
    let p = err_from_is_err_and c.from_residual.result c.from_residual.ensures.1 in
    rw (p.1, p.2) (λ limits b has. bad_number limits b message _ 3 8 int64 (pos 0) _ has body_length
    (ap map_fault (sym c.scalar_i64.ensures) ∙ sym c.in_err-length.ensures))
