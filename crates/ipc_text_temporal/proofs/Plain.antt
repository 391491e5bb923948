-- Texts of dates, times and points in time are plain.
use Rattle.std.proofs.Common.{◌≡◌, ℕ, ℤ, pos, ◌+◌, ◌<◌, ◌≤◌, ◌/◌, ◌%◌, List, [], ◌∷◌, ◌++◌, Option, Some, None, refl, sym, subst, arith}
use Rattle.std.proofs.Common.{true, unsigned_abs}
use Rattle.std.proofs.lemmas.Bool.Decides.{nat_tests}
use Rattle.std.specs.Prelude.{IfSome, option_map}
use Rattle.std.specs.Int.{int_div_euclid, int_rem_euclid}
use Rattle.ipc_model.specs.Ranges.{ticks_in_a_day}
use Rattle.ipc_model.specs.declared.schema.DataType.{DataType}
use Rattle.ipc_model.specs.declared.schema.DataType.TheVariants as t
use Rattle.ipc_model.specs.declared.schema.DateUnit.{DateUnit}
use Rattle.ipc_model.specs.declared.schema.TimeUnit.{TimeUnit}
use Rattle.ipc_model.specs.declared.schema.TimeUnit.TheVariants as u
use Rattle.ipc_text_temporal.specs.Calendar.{Civil, two_digits, four_digits, civil_text, day_text}
use Rattle.ipc_text_temporal.specs.Temporals.{per_second, three_digits, fraction_text, clock_text, time_of_day, zone_text}
use Rattle.ipc_text_temporal.specs.Temporals.{date_text, time_text, timestamp_text, temporal_text}
use Rattle.ipc_text_temporal.specs.ShortTexts.{IsPlain, is_plain_byte}
use Rattle.ipc_text_temporal.proofs.Dates.{date_of, split}
use Rattle.ipc_text_temporal.proofs.Days.{day_of}
use Rattle.ipc_text_temporal.proofs.Times.{time_of}

joined : (a b : List ℕ) → IsPlain a → IsPlain b → IsPlain (a ++ b)
joined [] b p q = q
joined (x ∷ a) b p q = (p.0, joined a b p.1 q)

digit : (d : ℕ) → d < 10 → is_plain_byte (48 + d) ≡ true
digit d small = grind (arith, nat_tests)

two : (n : ℕ) → n < 100 → IsPlain (two_digits n)
two n small = (digit (n / 10) (omega (arith, small)), (digit (n % 10) (omega arith), tt))

three : (n : ℕ) → n < 1_000 → IsPlain (three_digits n)
three n small = (digit (n / 100) (omega (arith, small)), two (n % 100) (omega arith))

four : (n : ℕ) → n < 10_000 → IsPlain (four_digits n)
four n small =
    joined (two_digits (n / 100)) (two_digits (n % 100)) (two (n / 100) (omega (arith, small))) (two (n % 100) (omega arith))

-- a mark in front of two digits
marked : (b n : ℕ) → is_plain_byte b ≡ true → n < 100 → IsPlain (b ∷ two_digits n)
marked b n plain small = (plain, two n small)

civil : (c : Civil) → c.year < 10_000 → c.month < 100 → c.day < 100 → IsPlain (civil_text c)
civil c y m d =
    joined (four_digits c.year ++ 45 ∷ two_digits c.month) (45 ∷ two_digits c.day)
    (joined (four_digits c.year) (45 ∷ two_digits c.month) (four c.year y) (marked 45 c.month refl m))
    (marked 45 c.day refl d)

if_some : (o : Option (List ℕ)) → ((text : List ℕ) → o ≡ Some text → IsPlain text) → IfSome o IsPlain
if_some None h = tt
if_some (Some text) h = h text refl

day_plain : (z : ℤ) (text : List ℕ) → day_text z ≡ Some text → IsPlain text
day_plain z text e = let d = day_of z text e in subst IsPlain d.text_is (civil d.civil d.year d.month d.day)

clock : (s : ℕ) → s < 86_400 → IsPlain (clock_text s)
clock s small =
    joined (two_digits (s / 3_600) ++ 58 ∷ two_digits (s / 60 % 60)) (58 ∷ two_digits (s % 60))
    (joined (two_digits (s / 3_600)) (58 ∷ two_digits (s / 60 % 60)) (two (s / 3_600) (omega (arith, small)))
    (marked 58 (s / 60 % 60) refl (omega arith)))
    (marked 58 (s % 60) refl (omega arith))

fraction : (unit : TimeUnit) (n : ℕ) → n < per_second unit → IsPlain (fraction_text unit n)
fraction u.Second n small = tt
fraction u.Millisecond n small = (refl, three n small)
fraction u.Microsecond n small =
    joined (46 ∷ three_digits (n / 1_000)) (three_digits (n % 1_000))
    (refl, three (n / 1_000) (omega (arith, small))) (three (n % 1_000) (omega arith))
fraction u.Nanosecond n small =
    joined (46 ∷ three_digits (n / 1_000_000) ++ three_digits (n / 1_000 % 1_000)) (three_digits (n % 1_000))
    (joined (46 ∷ three_digits (n / 1_000_000)) (three_digits (n / 1_000 % 1_000))
    (refl, three (n / 1_000_000) (omega (arith, small))) (three (n / 1_000 % 1_000) (omega arith)))
    (three (n % 1_000) (omega arith))

seconds_within : (unit : TimeUnit) (n : ℕ) → n < ticks_in_a_day unit
    → (n / per_second unit < 86_400) × (n % per_second unit < per_second unit)
seconds_within u.Second n small = (omega (arith, small), omega arith)
seconds_within u.Millisecond n small = (omega (arith, small), omega arith)
seconds_within u.Microsecond n small = (omega (arith, small), omega arith)
seconds_within u.Nanosecond n small = (omega (arith, small), omega arith)

clock_and_fraction : (unit : TimeUnit) (n : ℕ) → n < ticks_in_a_day unit → IsPlain (time_of_day unit n)
clock_and_fraction unit n small =
    let s = seconds_within unit n small in
    joined (clock_text (n / per_second unit)) (fraction_text unit (n % per_second unit))
    (clock (n / per_second unit) s.0) (fraction unit (n % per_second unit) s.1)

zone : (timezone : Option (List ℕ)) → IsPlain (zone_text timezone)
zone None = tt
zone (Some []) = tt
zone (Some (b ∷ bs)) = (refl, tt)

-- the text of a date is plain
pub date_plain : (unit : DateUnit) (z : ℤ) → IfSome (date_text unit z) IsPlain
date_plain unit z = if_some (date_text unit z) (λ text e. let d = date_of unit z text e in day_plain d.day text d.text_is)

-- so is that of a time
pub time_plain : (unit : TimeUnit) (z : ℤ) → IfSome (time_text unit z) IsPlain
time_plain unit z = if_some (time_text unit z) (λ text e.
    let d = time_of unit z text e in
    subst IsPlain (sym d.text_is)
    (joined (time_of_day unit d.number) [] (clock_and_fraction unit d.number d.within) tt))

behind_day : (day : Option (List ℕ)) (time behind : List ℕ) → IfSome day IsPlain → IsPlain time → IsPlain behind
    → IfSome (option_map (λ d. d ++ 84 ∷ time ++ behind) day) IsPlain
behind_day None time behind d t b = tt
behind_day (Some day) time behind d t b =
    joined (day ++ 84 ∷ time) behind (joined day (84 ∷ time) d (refl, t)) b

-- so is that of a point in time
pub timestamp_plain : (unit : TimeUnit) (timezone : Option (List ℕ)) (z : ℤ) → IfSome (timestamp_text unit timezone z) IsPlain
timestamp_plain unit timezone z =
    behind_day (day_text (int_div_euclid z (pos (ticks_in_a_day unit))))
    (time_of_day unit (unsigned_abs (int_rem_euclid z (pos (ticks_in_a_day unit))))) (zone_text timezone)
    (if_some (day_text (int_div_euclid z (pos (ticks_in_a_day unit)))) (day_plain (int_div_euclid z (pos (ticks_in_a_day unit)))))
    (clock_and_fraction unit (unsigned_abs (int_rem_euclid z (pos (ticks_in_a_day unit)))) (split unit z).0) (zone timezone)

-- so is that of a number of any type, where it has one
pub moment_plain : (kind : DataType) (z : ℤ) → IfSome (temporal_text kind z) IsPlain
moment_plain (t.Date unit) z = date_plain unit z
moment_plain (t.Time unit) z = time_plain unit z
moment_plain (t.Timestamp unit timezone) z = timestamp_plain unit timezone z
moment_plain (t.Duration unit) z = tt
moment_plain t.Null z = tt
moment_plain t.Bool z = tt
moment_plain (t.Int bits signed) z = tt
moment_plain t.Binary z = tt
moment_plain t.Utf8 z = tt
moment_plain (t.FixedSizeBinary width) z = tt
moment_plain t.List z = tt
moment_plain (t.FixedSizeList size) z = tt
moment_plain t.Struct z = tt
