use Rattle.std.proofs.Common.{FitsSigned}
use Rattle.std.specs.Int.{w64}
use Rattle.std.proofs.Math.Facts.{to_z-of_z}
use Rattle.jiff_core.proofs.SignedLemmas.{signed_arith}
use Rattle.std.proofs.Common.{◌∙◌, sym, arith}
use Rattle.ipc_text_csv.proofs.InstantTexts.{behind_one, instant_if, put_together}
use Rattle.ipc_text_csv.proofs.temporal_fast_path.plain_timestamp.Goals as goal

pub returns : goal.returns
returns c =
    let small = c.in_ok-day.ensures.small in
    let fits : FitsSigned w64 c.in_ok-day.day = omega (arith, signed_arith) in
    let together = put_together c.in_ok-text.text.now _ _ c.if-text-lt19.false c.if-text-ne84.false c.in_ok-seconds.ensures.text
    (sym (behind_one c.in_ok-text.text.now) ∙ c.in_ok-part.ensures.text) in
    instant_if c.args.unit _ _ _ _ c.in_ok-seconds.seconds c.in_ok-part.part c.args.text.now c.in_ok-text.text.now
    c.timestamp_of.ensures.day
    c.timestamp_of.ensures.units c.units_of.ensures.units c.in_ok-seconds.ensures.small c.in_ok-part.ensures.small
    (rw (to_z-of_z fits) c.in_ok-day.ensures.text) together c.in_ok-text.ensures
