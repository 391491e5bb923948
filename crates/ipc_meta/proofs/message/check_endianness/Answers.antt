use Rattle.std.proofs.Common.{◌∙◌, sym, ap, pos}
use Rattle.std.proofs.lemmas.Result.{err_from_is_err_and}
use Rattle.ipc_scalar.specs.Bytes.{int16}
use Rattle.ipc_meta.specs.FlatFaults.{map_fault}
use Rattle.ipc_meta.specs.Reached.{schema, endianness}
use Rattle.ipc_meta.proofs.refused.Refused.{bad_number}
use Rattle.ipc_meta.proofs.message.check_endianness.Goals as goal

pub returns-in_err-map_fault-clause-refused : goal.returns-in_err-map_fault-clause-refused
returns-in_err-map_fault-clause-refused c =
    let p = err_from_is_err_and c.from_residual.result c.from_residual.ensures.1 in
    rw (p.1, p.2) (λ limits b has. bad_number limits b schema _ 0 2 int16 (pos 0) _ has endianness
    (ap map_fault (sym c.scalar_i16.ensures) ∙ sym c.in_err-map_fault.ensures))
