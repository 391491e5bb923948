-- The days of the proleptic Gregorian calendar and their texts (ISO 8601-1, "Calendar date"). A
-- day number counts from 1970-01-01 (Schema.fbs, table Date).
use Rattle.std.specs.Prelude.{ℕ, zero, suc, ◌+◌, ◌/◌, ◌%◌, nat_lt, if◌then◌else◌, ℤ, pos, neg_ℤ}
use Rattle.std.specs.Prelude.{◌+ℤ◌, int_lt, unsigned_abs, List, [], ◌∷◌, ◌++◌, Option, Some, None}
use Rattle.jiff_core.specs.Calendar.{days_in_month}

-- a day of the calendar: its year, its month from 1 to 12, and its day of the month, from 1
pub record Civil : Type 0 where
  pub year : ℕ
  pub month : ℕ
  pub day : ℕ

-- the next day: in the same month, or the first of the next month or of the next year
abbrev pub tomorrow : Civil → Civil
tomorrow c =
    if nat_lt c.day (days_in_month (pos c.year) c.month)
    then record { year = c.year; month = c.month; day = c.day + 1 }
    else if nat_lt c.month 12 then record { year = c.year; month = c.month + 1; day = 1 }
    else record { year = c.year + 1; month = 1; day = 1 }

-- the day that is n days after 0001-01-01
unfoldable pub civil_on : ℕ → Civil
civil_on zero = record { year = 1; month = 1; day = 1 }
civil_on (suc n) = tomorrow (civil_on n)

-- a number below 100 as two decimal digits
abbrev pub two_digits : ℕ → List ℕ
two_digits n = (48 + n / 10) ∷ (48 + n % 10) ∷ []

-- a number below 10,000 as four decimal digits
abbrev pub four_digits : ℕ → List ℕ
four_digits n = two_digits (n / 100) ++ two_digits (n % 100)

-- the text of a day: YYYY-MM-DD
abbrev pub civil_text : Civil → List ℕ
civil_text c = four_digits c.year ++ 45 ∷ two_digits c.month ++ 45 ∷ two_digits c.day

-- how many days 0001-01-01 is before 1970-01-01
abbrev pub days_before_epoch : ℕ
days_before_epoch = 719_162

-- the number of the day 9999-12-31
abbrev pub last_day : ℕ
last_day = 2_932_896

-- the text of the day with this number; only the years 0001 to 9999 have one
abbrev pub day_text : ℤ → Option (List ℕ)
day_text z =
    if int_lt z (neg_ℤ (pos days_before_epoch)) then None
    else if int_lt (pos last_day) z then None
    else Some (civil_text (civil_on (unsigned_abs (z +ℤ pos days_before_epoch))))
