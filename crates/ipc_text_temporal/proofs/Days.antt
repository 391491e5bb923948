-- The nth tomorrow of 0001-01-01 has the day number n - 719162.
use Rattle.std.proofs.Common.{◌≡◌, ◌∙◌, ◌+◌, ◌<◌, ◌≤◌, ℕ, zero, suc, false, ℤ, pos, negsuc, neg_ℤ, ◌+ℤ◌, ◌-ℤ◌, ◌≤ℤ◌, ◌<ℤ◌, unsigned_abs}
use Rattle.std.proofs.Common.{refl, sym, ap, inl, inr, arith, nat_lt, lit≤, ◌++◌, ◌∷◌, List, Some}
use Rattle.std.specs.Prelude.{int_lt}
use Rattle.std.proofs.lemmas.Bool.{cases_Bool}
use Rattle.std.proofs.lemmas.Bool.Decides.{nat_tests}
use Rattle.std.proofs.lemmas.Int.{ints}
use Rattle.jiff_core.specs.Calendar.{days_in_month, days_from_civil, day_count, IsDate}
use Rattle.jiff_core.specs.Date.{epoch_day, IsYmd}
use Rattle.jiff_core.specs.declared.civil.date.Date.{Date}
use Rattle.jiff_core.proofs.CalendarLemmas.{day_count-next_year, day_count-last_of_year, day_count-next_month, day_count-day}
use Rattle.jiff_core.proofs.CalendarLemmas.{day_count-epoch, day_count-later_year, day_count-day_of_year, day_count-end}
use Rattle.jiff_core.proofs.CalendarLemmas.{days_in_month_bounds}
use Rattle.jiff_core.proofs.MarchLemmas.{day_count-early}
use Rattle.jiff_core.proofs.DateLemmas.{epoch_day_injective}
use Rattle.jiff_core.proofs.SignedLemmas.{signed_arith}
use Rattle.ipc_text_temporal.specs.Calendar.{Civil, tomorrow, civil_on, two_digits, four_digits, civil_text, day_text}
use Rattle.ipc_text_temporal.proofs.Taken.{left}

-- the number that the library of dates counts to a day
abbrev count : Civil → ℕ
count c = day_count (pos c.year) c.month c.day

-- a day stands in the calendar: from the year 1 on, in one of 12 months, within the days of its month
pub record Stands (c : Civil) : Type 0 where
  pub year : 1 ≤ c.year
  pub first : 1 ≤ c.month
  pub last : c.month ≤ 12
  pub day : 1 ≤ c.day
  pub within : c.day ≤ days_in_month (pos c.year) c.month

-- a day stands in the calendar and is counted one after another
pub record Follows (c d : Civil) : Type 0 where
  pub stands : Stands d
  pub count : count d ≡ count c + 1

first_count : day_count (pos 1) 1 1 ≡ 3_652_791
first_count = day_count-early (pos 1) 10000 1 1 refl (omega arith) (omega arith) (omega arith)

december : (y : ℤ) → days_in_month y 12 ≡ 31
december y = refl

next_day : (c : Civil) → Stands c → c.day < days_in_month (pos c.year) c.month
    → Follows c (record { year = c.year; month = c.month; day = c.day + 1 })
next_day c s lt = record {
  stands = record { year = s.year; first = s.first; last = s.last; day = omega arith; within = omega arith };
  count = omega (arith, day_count-day (pos c.year) c.month (c.day + 1) c.day (omega arith) s.day);
}

next_month : (c : Civil) → Stands c → days_in_month (pos c.year) c.month ≤ c.day → c.month < 12
    → Follows c (record { year = c.year; month = c.month + 1; day = 1 })
next_month c s le lt = record {
  stands = record {
    year = s.year;
    first = omega arith;
    last = omega arith;
    day = omega arith;
    within = omega (arith, days_in_month_bounds (pos c.year) (c.month + 1));
  };
  count = let w = s.within in omega (
    arith,
    day_count-next_month (pos c.year) c.month s.first,
    day_count-day (pos c.year) c.month c.day 1 s.day (omega arith),
  );
}

next_year : (c : Civil) → Stands c → days_in_month (pos c.year) c.month ≤ c.day → 12 ≤ c.month
    → Follows c (record { year = c.year + 1; month = 1; day = 1 })
next_year c s le ge =
    let m : c.month ≡ 12 = let l = s.last in omega arith in
    let d : c.day ≡ 31 = let w = s.within in omega (arith, ap (days_in_month (pos c.year)) m, december (pos c.year)) in
    let same : day_count (pos c.year) c.month c.day ≡ day_count (pos c.year) 12 31 = rw (m, d) refl in
    record {
      stands = record {
        year = omega arith;
        first = omega arith;
        last = omega arith;
        day = omega arith;
        within = omega (arith, days_in_month_bounds (pos (c.year + 1)) 1);
      };
      count = omega (
        arith,
        same,
        day_count-last_of_year (pos c.year),
        day_count-next_year (pos c.year) (pos (c.year + 1)) (omega (arith, signed_arith)) (omega (arith, signed_arith)),
      );
    }

-- the day that comes next is counted one more
pub tomorrow_follows : (c : Civil) → Stands c → Follows c (tomorrow c)
tomorrow_follows c s = elim (cases_Bool (nat_lt c.day (days_in_month (pos c.year) c.month))) [
  | inl less ↦ rw less (next_day c s (grind (arith, nat_tests)))
  | inr most ↦ elim (cases_Bool (nat_lt c.month 12)) [
    | inl more ↦ rw (most, more) (next_month c s (grind (arith, nat_tests)) (grind (arith, nat_tests)))
    | inr last ↦ rw (most, last) (next_year c s (grind (arith, nat_tests)) (grind (arith, nat_tests)))
  ]
]

-- the nth day after 0001-01-01 stands in the calendar and is counted n after it
pub record Counts (n : ℕ) : Type 0 where
  pub stands : Stands (civil_on n)
  pub count : count (civil_on n) ≡ n + 3_652_791

-- of each n the nth day after 0001-01-01 is counted n after it
pub civil_counts : (n : ℕ) → Counts n
unfolding civil_on
civil_counts zero = record {
  stands = record
      { year = lit≤ tt; first = lit≤ tt; last = lit≤ tt; day = lit≤ tt; within = omega (arith, days_in_month_bounds (pos 1) 1) };
  count =
      first_count;
}
civil_counts (suc n) =
    let h = civil_counts n in
    let t = tomorrow_follows (civil_on n) h.stands in
    record { stands = t.stands; count = let e = t.count in let f = h.count in omega arith }

below_10000 : (c : Civil) → Stands c → count c < 7_304_850 → c.year ≤ 9999
below_10000 c s lt = elim (cases_Bool (nat_lt 9999 c.year)) [
  | inl less ↦
      let above : 9999 < c.year = grind (arith, nat_tests) in
      let later = day_count-later_year (pos 9999) (pos c.year) (omega (arith, signed_arith)) (omega (arith, signed_arith)) in
      let next = day_count-next_year (pos 9999) (pos 10000) (omega (arith, signed_arith)) (omega (arith, signed_arith)) in
      let here = day_count-day_of_year (pos c.year) c.month c.day s.day in
      let one = s.day in
      absurd (omega (arith, later, next, here, day_count-end))
  | inr most ↦ grind (arith, nat_tests)
]

date_of : (c : Civil) → Stands c → c.year ≤ 9999 → Date
date_of c s le = record {
  year = pos c.year;
  month = c.month;
  day = c.day;
  year_in = omega (arith, signed_arith);
  month_in = (s.first, s.last);
  day_in = (s.day, s.within);
}

unsigned_is : (w : ℤ) → pos 0 ≤ℤ w → pos (unsigned_abs w) ≡ w
unsigned_is (pos n) h = refl
unsigned_is (negsuc n) h = absurd (omega (arith, signed_arith))

-- a date of the library is this day of the calendar, in the years 1 to 9999
pub record Same (d : Date) (c : Civil) : Type 0 where
  pub year : d.year ≡ pos c.year
  pub month : d.month ≡ c.month
  pub day : d.day ≡ c.day
  pub positive : 1 ≤ c.year
  pub four : c.year ≤ 9999

apart : (a b n : ℕ) (z : ℤ) → a ≡ n + 3_652_791 → b ≡ 4_371_953 → pos n ≡ z +ℤ pos 719_162 → pos a -ℤ pos b ≡ z
apart a b n z e f w = omega (arith, signed_arith)

-- the date that the library gives for a number in range is the day that the calendar has for it
pub same_day : (d : Date) (z : ℤ) → neg_ℤ (pos 719_162) ≤ℤ z → z <ℤ pos 2_932_897 → epoch_day d ≡ z
    → Same d (civil_on (unsigned_abs (z +ℤ pos 719_162)))
unfolding days_from_civil date_of civil_on
same_day d z low high e =
    let n = unsigned_abs (z +ℤ pos 719_162) in
    let whole : pos n ≡ z +ℤ pos 719_162 = unsigned_is (z +ℤ pos 719_162) (omega (arith, signed_arith)) in
    let h = civil_counts n in
    let k = h.count in
    let le = below_10000 (civil_on n) h.stands (omega (arith, signed_arith)) in
    let b = date_of (civil_on n) h.stands le in
    let there : epoch_day b ≡ z = apart _ _ n z k day_count-epoch whole in
    let p = epoch_day_injective d b (e ∙ sym there) in
    record { year = p.0; month = p.1; day = p.2; positive = h.stands.year; four = le }

-- the digits of that date are the text of the day
pub printed : (d : Date) (z : ℤ) → int_lt z (neg_ℤ (pos 719_162)) ≡ false → int_lt (pos 2_932_896) z ≡ false
    → Same d (civil_on (unsigned_abs (z +ℤ pos 719_162)))
    → Some (four_digits (unsigned_abs d.year) ++ 45 ∷ two_digits d.month ++ 45 ∷ two_digits d.day) ≡ day_text z
printed d z low high s = rw (low, high, s.year, s.month, s.day) refl

-- the day with this number has this text
pub record IsDay (z : ℤ) (text : List ℕ) : Type 0 where
  pub civil : Civil
  pub text_is : civil_text civil ≡ text
  pub year : civil.year < 10_000
  pub month : civil.month < 100
  pub day : civil.day < 100
  pub date : IsDate (pos civil.year) (pos civil.month) (pos civil.day)
  pub number : (d : Date) → IsYmd (pos civil.year) (pos civil.month) (pos civil.day) d → epoch_day d ≡ z

same_count : (d : Date) (c : Civil) → IsYmd (pos c.year) (pos c.month) (pos c.day) d
    → epoch_day d ≡ days_from_civil (pos c.year) c.month c.day
same_count d c h =
    let m : d.month ≡ c.month = let e = h.1 in cc in
    let n : d.day ≡ c.day = let e = h.2 in cc in
    rw (h.0, m, n) refl

is_date : (c : Civil) → Stands c → c.year ≤ 9999 → IsDate (pos c.year) (pos c.month) (pos c.day)
is_date c s le =
    let a = s.year in let b = s.first in let d = s.last in let e = s.day in let w = s.within in (
      (omega (arith, signed_arith), omega (arith, signed_arith)),
      (omega (arith, signed_arith), omega (arith, signed_arith)),
      (omega (arith, signed_arith), omega (arith, signed_arith)),
    )

day_is : (z : ℤ) (text : List ℕ) → neg_ℤ (pos 719_162) ≤ℤ z → z <ℤ pos 2_932_897
    → civil_text (civil_on (unsigned_abs (z +ℤ pos 719_162))) ≡ text → IsDay z text
unfolding days_from_civil
day_is z text low high e =
    let n = unsigned_abs (z +ℤ pos 719_162) in
    let whole : pos n ≡ z +ℤ pos 719_162 = unsigned_is (z +ℤ pos 719_162) (omega (arith, signed_arith)) in
    let h = civil_counts n in
    let k = h.count in
    let c = civil_on n in
    let le : c.year ≤ 9999 = below_10000 c h.stands (omega (arith, signed_arith)) in
    let there : days_from_civil (pos c.year) c.month c.day ≡ z = apart _ _ n z k day_count-epoch whole in
    let last = h.stands.last in
    let within = h.stands.within in
    record {
      civil = c;
      text_is = e;
      year = omega arith;
      month = omega arith;
      day = omega (arith, days_in_month_bounds (pos c.year) c.month);
      date = is_date c h.stands le;
      number = λ d y. same_count d c y ∙ there;
    }

-- where a number has the text of a day, it is that of one
pub day_of : (z : ℤ) (text : List ℕ) → day_text z ≡ Some text → IsDay z text
day_of z text e = elim (cases_Bool (int_lt z (neg_ℤ (pos 719_162)))) [
  | inl early ↦ absurd (let f = rw early at e in cc)
  | inr low ↦ elim (cases_Bool (int_lt (pos 2_932_896) z)) [
    | inl late ↦ absurd (let f = rw (low, late) at e in cc)
    | inr high ↦
        let f = rw (low, high) at e in
        day_is z text (grind (arith, ints)) (omega (arith, signed_arith)) (left f)
  ]
]
