use Rattle.std.proofs.Common.{◌≡◌, ◌∙◌, sym, subst, ⊎_elim, rules}
use Rattle.ipc_model.specs.WellFormed.{WellFormed}
use Rattle.ipc_model.proofs.Wider.{well_formed_wider}
use Rattle.ipc_text_temporal.specs.declared.fault.TextFault.TheVariants.{OutOfMemory}
use Rattle.std.proofs.lemmas.Option.{same_Some}
use Rattle.ipc_text_json.proofs.Readable.{readable, same_standard}
use Rattle.ipc_text_json.proofs.schema_reader.read_text_of.Goals as goal

pub returns-clause-all : goal.returns-clause-all
returns-clause-all c s l e st w ids =
    c.in_ok-schema.ensures.all s (readable l _ st w.each ids) (same_Some _ _ (sym c.in_ok-value.ensures.read ∙ e))

pub returns-in_err-check_standard-clause-all : goal.returns-in_err-check_standard-clause-all
returns-in_err-check_standard-clause-all c s l e st w ids =
    let same = c.in_ok-schema.ensures.all s (readable l _ st w.each ids) (same_Some _ _ (sym c.in_ok-value.ensures.read ∙ e)) in
    let z : c.in_err-check_standard.field-0.0 ≡ OutOfMemory =
    ⊎_elim (λ m. m) (λ b. absurd (b.1.2 (subst (WellFormed b.1.0) (sym same)
    (well_formed_wider l b.1.0 s (same_standard b.1.0 l b.1.1 st) w)))) c.in_err-check_standard.ensures.bad in
    search (rules, z)
