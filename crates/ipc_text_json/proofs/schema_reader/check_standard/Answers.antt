use Rattle.std.proofs.Common.{inr, refl, rules}
use Rattle.ipc_text_json.proofs.schema_reader.check_standard.Goals as goal

pub returns-else-eq-clause-bad : goal.returns-else-eq-clause-bad
returns-else-eq-clause-bad c =
    let no = c.if-eq.ensures in
    inr (refl, (c.standard.result, c.standard.ensures, c.in-Err.ensures.bad (λ e. absurd (search (rules, e, no)))))
