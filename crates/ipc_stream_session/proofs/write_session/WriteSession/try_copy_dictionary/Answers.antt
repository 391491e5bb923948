use Rattle.std.proofs.Common.{refl, w64, Err}
use Rattle.std.proofs.lemmas.Int.{to_z-of_z}
use Rattle.std.proofs.lemmas.Result.{err_from_is_err_and}
use Rattle.ipc_stream_session.proofs.write_session.WriteSession.try_copy_dictionary.Goals as goal

pub returns-in_err-copy_dictionary : goal.returns-in_err-copy_dictionary
returns-in_err-copy_dictionary c =
    let p = err_from_is_err_and c.from_residual-in_err-copy_dictionary.result c.from_residual-in_err-copy_dictionary.ensures.1 in
    let same = to_z-of_z w64 c.args.id c.ranges.id in
    rw (p.1, p.2, c.in_ok-open.ensures) (Err c.in_err-copy_dictionary.field-0.0, rw same at c.in_err-copy_dictionary.ensures, refl)
