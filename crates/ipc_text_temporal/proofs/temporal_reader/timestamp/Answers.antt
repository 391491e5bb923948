use Rattle.std.proofs.Common.{arith, ◌≡◌, ◌∙◌, ◌<◌, ◌^◌, ℕ, ℤ, pos, sym, subst, ◌*ℤ◌, ◌+ℤ◌, FitsSigned, refl, to_z, of_z}
use Rattle.std.specs.Int.{Width, w64, w128}
use Rattle.std.proofs.Math.Facts.{to_z-of_z}
use Rattle.jiff_core.specs.Calendar.{IsEpochDay}
use Rattle.jiff_core.proofs.SignedLemmas.{signed_arith}
use Rattle.ipc_model.specs.Ranges.{ticks_in_a_day}
use Rattle.ipc_model.specs.declared.schema.TimeUnit.{TimeUnit}
use Rattle.ipc_model.specs.declared.schema.TimeUnit.TheVariants as u
use Rattle.ipc_text_temporal.proofs.temporal_reader.timestamp.Goals as goal

-- what the sum is made of fits
record Fitting (unit : TimeUnit) (day : ℤ) (units : ℕ) : Type 0 where
  ticks : FitsSigned w64 (pos (ticks_in_a_day unit))
  wide_ticks : FitsSigned w128 (pos (ticks_in_a_day unit))
  product : FitsSigned w128 (day *ℤ pos (ticks_in_a_day unit))
  sum : FitsSigned w128 (day *ℤ pos (ticks_in_a_day unit) +ℤ pos units)

fitting : (unit : TimeUnit) (day : ℤ) (units : ℕ) → IsEpochDay day → units < 2 ^ 50 → Fitting unit day units
fitting u.Second day units d h = record {
  ticks = omega (arith, signed_arith);
  wide_ticks = omega (arith, signed_arith);
  product = omega (arith, signed_arith);
  sum = omega (arith, signed_arith);
}
fitting u.Millisecond day units d h = record {
  ticks = omega (arith, signed_arith);
  wide_ticks = omega (arith, signed_arith);
  product = omega (arith, signed_arith);
  sum = omega (arith, signed_arith);
}
fitting u.Microsecond day units d h = record {
  ticks = omega (arith, signed_arith);
  wide_ticks = omega (arith, signed_arith);
  product = omega (arith, signed_arith);
  sum = omega (arith, signed_arith);
}
fitting u.Nanosecond day units d h = record {
  ticks = omega (arith, signed_arith);
  wide_ticks = omega (arith, signed_arith);
  product = omega (arith, signed_arith);
  sum = omega (arith, signed_arith);
}

-- through 128 bits and back
abbrev through : Width → ℤ → ℤ
through w z = to_z w (of_z w z)

summed : (unit : TimeUnit) (day : ℤ) (units : ℕ) (a t b c : ℤ) → IsEpochDay day → units < 2 ^ 50
    → a ≡ through w64 day → t ≡ pos (ticks_in_a_day unit) → b ≡ through w64 t → c ≡ pos units
    → through w128 (through w128 (through w128 a *ℤ through w128 b) +ℤ through w128 c)
    ≡ day *ℤ pos (ticks_in_a_day unit) +ℤ pos units
summed unit day units a t b c d h p q r s =
    let f = fitting unit day units d h in
    let fd : FitsSigned w64 day = omega (arith, signed_arith) in
    let wd : FitsSigned w128 day = omega (arith, signed_arith) in
    let wu : FitsSigned w128 (pos units) = omega (arith, signed_arith) in
    rw (
      p,
      r,
      q,
      s,
      to_z-of_z fd,
      to_z-of_z f.ticks,
      to_z-of_z wd,
      to_z-of_z f.wide_ticks,
      to_z-of_z wu,
      to_z-of_z f.product,
      to_z-of_z
          f.sum,
    ) refl

pub returns-in-Ok : goal.returns-in-Ok
returns-in-Ok c z h e =
    let s = summed c.args.unit c.args.day c.args.units _ _ _ _ c.requires.day c.requires.small c.from.ensures
    c.ticks_in_a_day.ensures c.from-2.ensures c.from-3.ensures in
    let n : c.in-Ok.number ≡ z = c.in-Ok.ensures.1 ∙ s ∙ e in
    rw (n, to_z-of_z h) refl

pub returns-in-Err : goal.returns-in-Err
returns-in-Err c z h e =
    let s = summed c.args.unit c.args.day c.args.units _ _ _ _ c.requires.day c.requires.small c.from.ensures
    c.ticks_in_a_day.ensures c.from-2.ensures c.from-3.ensures in
    absurd (c.in-Err.ensures (subst (FitsSigned w64) (sym (s ∙ e)) h))
