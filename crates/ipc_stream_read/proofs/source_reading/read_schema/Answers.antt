use Rattle.std.proofs.Common.{ap, sym, subst, refl, Ok}
use Rattle.std.specs.Prelude.{IsSome}
use Rattle.std.proofs.lemmas.Result.{err_from_is_err_and}
use Rattle.ipc_stream_read.proofs.Nexts.{pulls_at, schema_broken, schema_first, schema_read}
use Rattle.ipc_stream_read.proofs.source_reading.read_schema.Goals as goal

pub returns-clause-schema : goal.returns-clause-schema
returns-clause-schema g c =
    let first = schema_first _ _ _ _ _ _ c.pull.ensures.limits c.requires.fresh c.requires.none c.in_ok-pull.field-0
    c.in_ok-pull.ensures.pulled in
    schema_read _ _ _ _ _ _ c.pull.ensures.limits c.requires.fresh c.requires.none
    (pulls_at _ _ _ _ _ _ _ _ (ap Ok first) c.in_ok-pull.ensures.pulled)

pub returns-clause-fewer : goal.returns-clause-fewer
returns-clause-fewer g c =
    let first = schema_first _ _ _ _ _ _ c.pull.ensures.limits c.requires.fresh c.requires.none c.in_ok-pull.field-0
    c.in_ok-pull.ensures.pulled in
    c.in_ok-pull.ensures.fewer (subst IsSome (sym first) refl)

pub returns-in_err-pull-clause-schema : goal.returns-in_err-pull-clause-schema
returns-in_err-pull-clause-schema g c =
    let p = err_from_is_err_and c.from_residual.result c.from_residual.ensures.1 in
    rw (p.1, p.2) (schema_broken _ _ _ _ _ _ c.pull.ensures.limits c.requires.fresh c.requires.none c.in_err-pull.field-0.0
    c.in_err-pull.ensures.pulled)
