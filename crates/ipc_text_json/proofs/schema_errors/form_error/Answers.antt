use Rattle.std.proofs.Common.{◌≡◌, ap, rules, true}
use Rattle.std.specs.Prelude.{Ok}
use Rattle.ipc_text_json.proofs.Fields.{nesting_of}
use Rattle.ipc_text_json.proofs.schema_errors.form_error.Goals as goal

pub returns-then-branch-clause-error : goal.returns-then-branch-clause-error
returns-then-branch-clause-error c =
    let pairs : c.in_ok-is_pairs.field-0 ≡ true = search rules in
    nesting_of _ _ c.in-Ok.entries.now c.in-Ok.ensures.only (c.in_ok-is_pairs.ensures.yes (ap Ok pairs))
    (c.in_ok-entry.ensures.none (ap Ok c.in_default-2.is)) c.requires
