use Rattle.std.proofs.Common.{◌≡◌, ◌∙◌, ◌∷◌, ◌++◌, ℤ, ap, Some, arith, FitsSigned, to_z, of_z}
use Rattle.std.specs.Int.{w64}
use Rattle.std.proofs.Math.Facts.{to_z-of_z}
use Rattle.jiff_core.specs.Calendar.{IsEpochDay}
use Rattle.jiff_core.proofs.SignedLemmas.{signed_arith}
use Rattle.ipc_text_temporal.specs.Temporals.{timestamp_text, time_of_day}
use Rattle.ipc_text_temporal.proofs.Taken.{taken, left}
use Rattle.ipc_text_temporal.proofs.Dates.{timestamp_of}
use Rattle.ipc_text_temporal.proofs.temporal_reader.read_timestamp.Goals as goal

day_fits : {z : ℤ} → IsEpochDay z → to_z w64 (of_z w64 z) ≡ z
day_fits {z} b = let w : FitsSigned w64 z = omega (arith, signed_arith) in to_z-of_z w

pub returns-in_err-day-clause-all : goal.returns-in_err-day-clause-all
returns-in_err-day-clause-all c z fits e =
    let t = timestamp_of c.args.unit _ z c.args.text.now e in
    let f = c.in_err-day.ensures.all t.day t.front (84 ∷ (time_of_day c.args.unit t.units ++ t.behind)) t.front_is t.text_is in absurd cc

pub returns-in_err-after_first_byte-clause-all : goal.returns-in_err-after_first_byte-clause-all
returns-in_err-after_first_byte-clause-all c z fits e =
    let t = timestamp_of c.args.unit _ z c.args.text.now e in
    let h = taken (c.in_ok-day.ensures.all t.day t.front (84 ∷ (time_of_day c.args.unit t.units ++ t.behind)) t.front_is t.text_is) in
    let f = c.in_err-after_first_byte.ensures 84 (time_of_day c.args.unit t.units ++ t.behind) h.1 in absurd cc

pub returns-in_err-units-clause-all : goal.returns-in_err-units-clause-all
returns-in_err-units-clause-all c z fits e =
    let t = timestamp_of c.args.unit _ z c.args.text.now e in
    let h = taken (c.in_ok-day.ensures.all t.day t.front (84 ∷ (time_of_day c.args.unit t.units ++ t.behind)) t.front_is t.text_is) in
    let g = left (c.in_ok-after_first_byte.ensures 84 (time_of_day c.args.unit t.units ++ t.behind) h.1) in
    let f = c.in_err-units.ensures.all t.units t.behind t.within g in absurd cc

pub returns-in_err-number-clause-all : goal.returns-in_err-number-clause-all
returns-in_err-number-clause-all c z fits e =
    let t = timestamp_of c.args.unit _ z c.args.text.now e in
    let h = taken (c.in_ok-day.ensures.all t.day t.front (84 ∷ (time_of_day c.args.unit t.units ++ t.behind)) t.front_is t.text_is) in
    let g = left (c.in_ok-after_first_byte.ensures 84 (time_of_day c.args.unit t.units ++ t.behind) h.1) in
    let k = taken (c.in_ok-units.ensures.all t.units t.behind t.within g) in
    let f = c.in_err-number.ensures z fits (rw (day_fits c.in_ok-day.ensures.small, h.0, k.0) t.number) in absurd cc

pub returns-clause-all : goal.returns-clause-all
returns-clause-all c z fits e =
    let t = timestamp_of c.args.unit _ z c.args.text.now e in
    let h = taken (c.in_ok-day.ensures.all t.day t.front (84 ∷ (time_of_day c.args.unit t.units ++ t.behind)) t.front_is t.text_is) in
    let g = left (c.in_ok-after_first_byte.ensures 84 (time_of_day c.args.unit t.units ++ t.behind) h.1) in
    let k = taken (c.in_ok-units.ensures.all t.units t.behind t.within g) in
    let n = left (c.in_ok-number.ensures z fits (rw (day_fits c.in_ok-day.ensures.small, h.0, k.0) t.number)) in
    let m = ap (λ x. to_z w64 (of_z w64 x)) n ∙ to_z-of_z fits in
    c.if_canonical.ensures.all (c.timestamp_text.ensures ∙ ap (timestamp_text c.args.unit _) m ∙ e) ∙ ap Some m
