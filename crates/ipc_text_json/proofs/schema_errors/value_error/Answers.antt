use Rattle.std.proofs.Common.{sym, subst}
use Rattle.std.specs.Prelude.{IfOk, IfSome}
use Rattle.ipc_text_json.specs.SchemaErrors.{IsValueError}
use Rattle.ipc_text_json.proofs.schema_errors.value_error.Goals as goal

pub returns-in-Ok-clause-error : goal.returns-in-Ok-clause-error
returns-in-Ok-clause-error c = subst (λ d. IfOk c.refusal.result (λ found. IfSome found (IsValueError d)))
    (sym c.in-Ok.ensures.read) c.refusal.ensures.refusal

pub returns-in-Ok-clause-none : goal.returns-in-Ok-clause-none
returns-in-Ok-clause-none c e =
    let n = c.refusal.ensures.none e in (c.in-Ok.schema, n.0, c.in-Ok.ensures.read, n.1, n.2)
