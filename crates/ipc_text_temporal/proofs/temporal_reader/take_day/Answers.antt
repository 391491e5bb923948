use Rattle.std.proofs.Common.{◌∙◌, ◌<◌, ◌++◌, pos, ap, sym, arith, FitsSigned}
use Rattle.std.specs.Int.{w8, w16, w32, w64}
use Rattle.std.proofs.Math.Facts.{to_z-of_z}
use Rattle.jiff_core.specs.Date.{IsYmd}
use Rattle.jiff_core.proofs.SignedLemmas.{signed_arith}
use Rattle.ipc_text_temporal.specs.Calendar.{Civil}
use Rattle.ipc_text_temporal.proofs.Taken.{taken_four, both}
use Rattle.ipc_text_temporal.proofs.Days.{day_of}
use Rattle.ipc_text_temporal.proofs.temporal_reader.take_day.Goals as goal

pub returns-in_err-year-clause-all : goal.returns-in_err-year-clause-all
returns-in_err-year-clause-all c z day rest h e =
    let d = day_of z day h in
    let f = c.in_err-year.ensures d.civil rest d.year d.month d.day (e ∙ ap (λ t. t ++ rest) (sym d.text_is)) in absurd cc

-- a day's parts fit their types
parts : (c : Civil) → c.year < 10_000 → c.month < 100 → c.day < 100
    → FitsSigned w16 (pos c.year) × FitsSigned w8 (pos c.month) × FitsSigned w8 (pos c.day)
parts c y m d = (omega (arith, signed_arith), omega (arith, signed_arith), omega (arith, signed_arith))

pub returns-in_default-clause-all : goal.returns-in_default-clause-all
returns-in_default-clause-all c z day rest h e =
    let d = day_of z day h in
    let p = taken_four (c.in_ok-year.ensures d.civil rest d.year d.month d.day (e ∙ ap (λ t. t ++ rest) (sym d.text_is))) in
    let f = parts d.civil d.year d.month d.day in
    let ok = c.in_default.ensures.succeeds.1 (rw (p.0, p.1, p.2, to_z-of_z f.0, to_z-of_z f.1, to_z-of_z f.2) d.date) in
    absurd cc

pub returns-clause-all : goal.returns-clause-all
returns-clause-all c z day rest h e =
    let d = day_of z day h in
    let p = taken_four (c.in_ok-year.ensures d.civil rest d.year d.month d.day (e ∙ ap (λ t. t ++ rest) (sym d.text_is))) in
    let f = parts d.civil d.year d.month d.day in
    let y : IsYmd (pos d.civil.year) (pos d.civil.month) (pos d.civil.day) c.in-Ok.date =
    rw (p.0, p.1, p.2, to_z-of_z f.0, to_z-of_z f.1, to_z-of_z f.2) at c.in-Ok.ensures.value in
    let b = c.to_unix_epoch_day.ensures.bound in
    let w : FitsSigned w32 c.to_unix_epoch_day.result = omega (arith, signed_arith) in
    let n = c.from.ensures ∙ to_z-of_z w ∙ c.to_unix_epoch_day.ensures.value ∙ d.number c.in-Ok.date y in
    let v : FitsSigned w64 c.from.result = omega (arith, signed_arith, c.from.ensures ∙ to_z-of_z w) in
    both (to_z-of_z v ∙ n) p.3
