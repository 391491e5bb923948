use Rattle.std.proofs.Common.{◌≡◌, ◌∙◌, ◌+◌, ◌*◌, ◌<◌, ◌≤ℤ◌, sym, pos, negsuc, arith, FitsSigned, to_z}
use Rattle.std.specs.Int.{w8, w16, w32, w64}
use Rattle.std.proofs.Math.Facts.{to_z-of_z}
use Rattle.std.proofs.lemmas.Int.{to_z_pos, ints}
use Rattle.jiff_core.specs.Date.{IsYmd}
use Rattle.jiff_core.proofs.CalendarLemmas.{days_in_month_bounds}
use Rattle.jiff_core.proofs.SignedLemmas.{signed_arith}
use Rattle.ipc_text_csv.proofs.InstantTexts.{day_here}
use Rattle.ipc_text_csv.proofs.temporal_fast_path.leading_day.Goals as goal

pub returns-clause-text : goal.returns-clause-text
returns-clause-text c =
    let h = c.pair_here-hundreds.ensures.small in
    let y = c.pair_here-years.ensures.small in
    let m = c.pair_here-month.ensures.small in
    let n = c.pair_here-day.ensures.small in
    let bound = c.to_unix_epoch_day.ensures.bound in
    let w : FitsSigned w32 c.to_unix_epoch_day.result = omega (arith, signed_arith) in
    let is = c.from-number.ensures ∙ to_z-of_z w in
    let v : FitsSigned w64 c.from-number.result = omega (arith, signed_arith, is) in
    let same = to_z-of_z v ∙ is in
    let year : to_z w16 (c.pair_here-hundreds.result * 100 + c.pair_here-years.result) ≡ pos (c.pair_here-hundreds.result * 100
    + c.pair_here-years.result) = to_z_pos w16 _ (omega arith) in
    let month : to_z w8 c.pair_here-month.result ≡ pos c.pair_here-month.result = to_z_pos w8 _ (omega arith) in
    let day : to_z w8 c.pair_here-day.result ≡ pos c.pair_here-day.result = to_z_pos w8 _ (omega arith) in
    let value = c.in-Ok.ensures.value in
    let ymd : IsYmd (pos (c.pair_here-hundreds.result * 100 + c.pair_here-years.result)) (pos c.pair_here-month.result)
    (pos c.pair_here-day.result)
    c.in-Ok.date = (value.0 ∙ year, value.1 ∙ month, value.2 ∙ day) in
    let months = c.in-Ok.date.month_in in
    let days = c.in-Ok.date.day_in in
    let low : negsuc 719_161 ≤ℤ c.to_unix_epoch_day.result = let f = rw same at c.if-number-lt-FIRST_DAY.false in grind (arith, ints) in
    let mm : c.pair_here-month.result < 100 = omega (arith, signed_arith, ymd.1, months) in
    let most = days_in_month_bounds c.in-Ok.date.year c.in-Ok.date.month in
    let nn : c.pair_here-day.result < 100 = omega (arith, signed_arith, ymd.2, days, most) in
    let hh = c.pair_here-hundreds.ensures in
    let yy = c.pair_here-years.ensures in
    let ms = c.pair_here-month.ensures in
    let ds = c.pair_here-day.ensures in
    rw same (day_here c.args.text.now c.in-Ok.date c.pair_here-hundreds.result c.pair_here-years.result c.pair_here-month.result
    c.pair_here-day.result c.to_unix_epoch_day.result c.requires ymd (sym c.to_unix_epoch_day.ensures.value) low bound (omega arith)
    (omega arith) hh.first hh.second yy.first yy.second
    c.if-text-ne45.false ms.first ms.second c.if-text-ne45-2.false ds.first ds.second)
