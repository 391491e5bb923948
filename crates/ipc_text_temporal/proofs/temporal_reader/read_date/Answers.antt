use Rattle.std.proofs.Common.{◌∙◌, [], ap, sym, Some, arith, FitsSigned, ℤ, subst, to_z, of_z}
use Rattle.std.specs.Int.{w64}
use Rattle.std.proofs.Math.Facts.{to_z-of_z}
use Rattle.jiff_core.specs.Calendar.{IsEpochDay}
use Rattle.ipc_model.specs.declared.schema.DateUnit.{DateUnit}
use Rattle.ipc_model.specs.declared.schema.DateUnit.TheVariants as d
use Rattle.jiff_core.proofs.SignedLemmas.{signed_arith}
use Rattle.std.proofs.lemmas.List.{append-nil}
use Rattle.ipc_text_temporal.specs.Temporals.{date_text, date_of_day}
use Rattle.ipc_text_temporal.proofs.Taken.{taken}
use Rattle.ipc_text_temporal.proofs.Dates.{date_of}
use Rattle.ipc_text_temporal.proofs.temporal_reader.read_date.Goals as goal

date_fits : (unit : DateUnit) (day : ℤ) → IsEpochDay day → FitsSigned w64 (date_of_day unit day)
date_fits d.Day day b = omega (arith, signed_arith)
date_fits d.Millisecond day b = omega (arith, signed_arith)

pub returns-in_err-day-clause-all : goal.returns-in_err-day-clause-all
returns-in_err-day-clause-all c z e =
    let d = date_of c.args.unit z c.args.text.now e in
    let f = c.in_err-day.ensures.all d.day c.args.text.now [] d.text_is (sym (append-nil c.args.text.now)) in absurd cc

pub returns-clause-all : goal.returns-clause-all
returns-clause-all c z e =
    let d = date_of c.args.unit z c.args.text.now e in
    let h = taken (c.in_ok-day.ensures.all d.day c.args.text.now [] d.text_is (sym (append-nil c.args.text.now))) in
    let b = c.in_ok-day.ensures.small in
    let w : FitsSigned w64 c.in_ok-day.day = omega (arith, signed_arith) in
    let n = c.date_of_day-number.ensures ∙ ap (date_of_day c.args.unit) (to_z-of_z w ∙ h.0) ∙ d.number in
    let v = subst (FitsSigned w64) (ap (date_of_day c.args.unit) h.0 ∙ d.number) (date_fits c.args.unit c.in_ok-day.day b) in
    let m = ap (λ x. to_z w64 (of_z w64 x)) n ∙ to_z-of_z v in
    c.if_canonical.ensures.all (c.date_text.ensures ∙ ap (date_text c.args.unit) m ∙ e) ∙ ap Some m
