use Rattle.std.proofs.Common.{⊎_elim, refl}
use Rattle.ipc_text_json.proofs.schema_errors.refusal.Goals as goal

pub returns-in_default-fault-clause-refusal : goal.returns-in_default-fault-clause-refusal
returns-in_default-fault-clause-refusal c = (
  c.args.schema.now,
  c.standard.result,
  refl,
  c.standard.ensures,
  ⊎_elim (λ e. absurd (c.in_default-fault.not-OutOfMemory e)) (λ f. f) c.in-Err.ensures.first,
)
