use Rattle.std.proofs.Common.{inr, refl, rules, w64}
use Rattle.std.proofs.lemmas.Int.{to_z-of_z}
use Rattle.ipc_text_temporal.specs.Temporals.{temporal_text}
use Rattle.job_print.proofs.texts.MomentTexts.{field_moment}
use Rattle.job_print.proofs.csv_row.put_temporal_field.Goals as goal

pub returns-then-put_temporal : goal.returns-then-put_temporal
returns-then-put_temporal c d =
    let h = rw (c.if-put_temporal.true, to_z-of_z w64 c.args.number (search rules)) at c.put_temporal.ensures.text in
    field_moment d _ _ (temporal_text c.args.kind.now c.args.number) h.1 h.0

pub returns : goal.returns
returns c d =
    let h = rw (c.if-put_temporal.false, to_z-of_z w64 c.args.number (search rules)) at c.put_temporal.ensures.text in
    (inr (refl, h.0), λ _. h.1)
