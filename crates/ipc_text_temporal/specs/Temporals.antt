-- Dates, times of day and points in time as texts (ISO 8601-1, "Local time of day", "Combined date
-- and time of day representations"). There are no leap seconds.
use Rattle.std.specs.Prelude.{ℕ, ◌+◌, ◌/◌, ◌%◌, ℤ, pos, ◌*ℤ◌, if◌then◌else◌}
use Rattle.std.specs.Prelude.{unsigned_abs, int_lt, List, [], ◌∷◌, ◌++◌}
use Rattle.std.specs.Prelude.{Option, Some, None, option_map}
use Rattle.std.specs.Int.{int_div_euclid, int_rem_euclid}
use Rattle.std.specs.Ordering.{int_eq}
use Rattle.ipc_model.specs.Ranges.{ticks_in_a_day}
use Rattle.ipc_model.specs.declared.schema.DataType.{DataType}
use Rattle.ipc_model.specs.declared.schema.DataType.TheVariants as t
use Rattle.ipc_model.specs.declared.schema.DateUnit.{DateUnit}
use Rattle.ipc_model.specs.declared.schema.DateUnit.TheVariants as d
use Rattle.ipc_model.specs.declared.schema.TimeUnit.{TimeUnit}
use Rattle.ipc_model.specs.declared.schema.TimeUnit.TheVariants as u
use Rattle.ipc_text_temporal.specs.Calendar.{two_digits, day_text}

-- how many of a unit a second has (Schema.fbs, enum TimeUnit)
abbrev pub per_second : TimeUnit → ℕ
per_second u.Second = 1
per_second u.Millisecond = 1_000
per_second u.Microsecond = 1_000_000
per_second u.Nanosecond = 1_000_000_000

-- a number below 1,000 as three decimal digits
abbrev pub three_digits : ℕ → List ℕ
three_digits n = (48 + n / 100) ∷ two_digits (n % 100)

-- the text of a fraction of a second in its unit: nothing for seconds, else a point and 3, 6 or 9
-- digits
abbrev pub fraction_text : TimeUnit → ℕ → List ℕ
fraction_text u.Second n = []
fraction_text u.Millisecond n = 46 ∷ three_digits n
fraction_text u.Microsecond n = 46 ∷ three_digits (n / 1_000) ++ three_digits (n % 1_000)
fraction_text u.Nanosecond n =
    46 ∷ three_digits (n / 1_000_000) ++ three_digits (n / 1_000 % 1_000)
    ++ three_digits (n % 1_000)

-- the text of the time s seconds after midnight: hh:mm:ss
abbrev pub clock_text : ℕ → List ℕ
clock_text s = two_digits (s / 3_600) ++ 58 ∷ two_digits (s / 60 % 60) ++ 58 ∷ two_digits (s % 60)

-- the text of the time of day n units after midnight
abbrev pub time_of_day : TimeUnit → ℕ → List ℕ
time_of_day unit n = clock_text (n / per_second unit) ++ fraction_text unit (n % per_second unit)

-- the text of a date (Schema.fbs, table Date); a number of milliseconds has one only if it is a
-- whole number of days
abbrev pub date_text : DateUnit → ℤ → Option (List ℕ)
date_text d.Day z = day_text z
date_text d.Millisecond z =
    if int_eq (int_rem_euclid z (pos 86_400_000)) (pos 0)
    then day_text (int_div_euclid z (pos 86_400_000)) else None

-- the number, in this unit, of the date that is z days after 1970-01-01 (Schema.fbs, enum DateUnit)
abbrev pub date_of_day : DateUnit → ℤ → ℤ
date_of_day d.Day z = z
date_of_day d.Millisecond z = z *ℤ pos 86_400_000

-- the text of a time (Schema.fbs, table Time), z units after midnight; it has one only within 24
-- hours
abbrev pub time_text : TimeUnit → ℤ → Option (List ℕ)
time_text unit z =
    if int_lt z (pos 0) then None
    else if int_lt z (pos (ticks_in_a_day unit)) then Some (time_of_day unit (unsigned_abs z))
    else None

-- the end of the text of a point in time: `Z` if there is a time zone that is not empty
abbrev pub zone_text : Option (List ℕ) → List ℕ
zone_text None = []
zone_text (Some []) = []
zone_text (Some (b ∷ bs)) = 90 ∷ []

-- the text of a point in time (Schema.fbs, table Timestamp): the day, `T`, the time of day, the
-- zone
abbrev pub timestamp_text : TimeUnit → Option (List ℕ) → ℤ → Option (List ℕ)
timestamp_text unit zone z =
    option_map (λ day. day ++ 84 ∷ time_of_day unit
    (unsigned_abs (int_rem_euclid z (pos (ticks_in_a_day unit)))) ++ zone_text zone)
    (day_text (int_div_euclid z (pos (ticks_in_a_day unit))))

-- the text of a number that is a date, a time of day or a point in time by this type, if it has
-- one; for any other type, `other`
abbrev pub temporal_or : Option (List ℕ) → DataType → ℤ → Option (List ℕ)
temporal_or other (t.Date unit) z = date_text unit z
temporal_or other (t.Time unit) z = time_text unit z
temporal_or other (t.Timestamp unit zone) z = timestamp_text unit zone z
temporal_or other (t.Duration unit) z = other
temporal_or other t.Null z = other
temporal_or other t.Bool z = other
temporal_or other (t.Int bits signed) z = other
temporal_or other t.Binary z = other
temporal_or other t.Utf8 z = other
temporal_or other (t.FixedSizeBinary width) z = other
temporal_or other t.List z = other
temporal_or other (t.FixedSizeList size) z = other
temporal_or other t.Struct z = other

-- the text of a number that is a date, a time of day or a point in time by this type, if it has one
abbrev pub temporal_text : DataType → ℤ → Option (List ℕ)
temporal_text kind z = temporal_or None kind z
