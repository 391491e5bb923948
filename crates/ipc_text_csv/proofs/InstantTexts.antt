-- The places of the digits of a date and of a point in time.
use Rattle.std.proofs.Common.{◌≡◌, ◌∙◌, ℕ, ℤ, pos, ◌<◌, ◌≤◌, ◌+◌, ◌-◌, ◌*◌, ◌/◌, ◌%◌, ◌≤ℤ◌, neg_ℤ, List, [], ◌∷◌, ◌++◌, length}
use Rattle.std.proofs.Common.{take, drop, get_or, Some, Option, refl, sym, ap, arith, append_assoc, unsigned_abs}
use Rattle.std.specs.Prelude.{IfSome, None}
use Rattle.std.specs.Int.{int_div_euclid, int_rem_euclid}
use Rattle.std.proofs.lemmas.Int.{ints}
use Rattle.std.proofs.lemmas.List.{drop_more, drop-drop, take_rest, take_all, take-append-drop}
use Rattle.jiff_core.specs.Date.{epoch_day, IsYmd}
use Rattle.jiff_core.specs.Calendar.{IsEpochDay, IsDate as IsCalendarDate}
use Rattle.jiff_core.specs.declared.civil.date.Date.{Date}
use Rattle.jiff_core.proofs.SignedLemmas.{signed_arith}
use Rattle.ipc_model.specs.Ranges.{ticks_in_a_day}
use Rattle.ipc_model.specs.declared.schema.TimeUnit.{TimeUnit}
use Rattle.ipc_model.specs.declared.schema.TimeUnit.TheVariants as u
use Rattle.ipc_text_temporal.specs.Calendar.{Civil, civil_text, day_text}
use Rattle.ipc_text_temporal.specs.Temporals.{timestamp_text, time_of_day, per_second, three_digits, clock_text, fraction_text, zone_text}
use Rattle.ipc_text_temporal.proofs.Days.{day_of, same_day, printed}
use Rattle.ipc_text_temporal.proofs.Dates.{timestamp_of}

-- the ten bytes in front of a text
pub ten : (xs : List ℕ) → 10 ≤ length xs → take 10 xs ≡ get_or xs 0 0 ∷ get_or xs 1 0 ∷ get_or xs 2 0 ∷ get_or xs 3 0 ∷ get_or xs 4 0
    ∷ get_or xs 5 0 ∷ get_or xs 6 0 ∷ get_or xs 7 0 ∷ get_or xs 8 0 ∷ get_or xs 9 0 ∷ []
ten (a ∷ b ∷ c ∷ d ∷ e ∷ f ∷ g ∷ h ∷ i ∷ j ∷ xs) l = refl
ten (a ∷ b ∷ c ∷ d ∷ e ∷ f ∷ g ∷ h ∷ i ∷ []) l = absurd (omega arith)
ten (a ∷ b ∷ c ∷ d ∷ e ∷ f ∷ g ∷ h ∷ []) l = absurd (omega arith)
ten (a ∷ b ∷ c ∷ d ∷ e ∷ f ∷ g ∷ []) l = absurd (omega arith)
ten (a ∷ b ∷ c ∷ d ∷ e ∷ f ∷ []) l = absurd (omega arith)
ten (a ∷ b ∷ c ∷ d ∷ e ∷ []) l = absurd (omega arith)
ten (a ∷ b ∷ c ∷ d ∷ []) l = absurd (omega arith)
ten (a ∷ b ∷ c ∷ []) l = absurd (omega arith)
ten (a ∷ b ∷ []) l = absurd (omega arith)
ten (a ∷ []) l = absurd (omega arith)
ten [] l = absurd (omega arith)

-- a date of the library whose digits stand in front is the day with that text
pub day_here : (xs : List ℕ) (d : Date) (h y m n : ℕ) (z : ℤ) → 10 ≤ length xs → IsYmd (pos (h * 100 + y)) (pos m) (pos n) d
    → epoch_day d ≡ z → neg_ℤ (pos 719_162) ≤ℤ z → IsEpochDay z → h < 100 → y < 100
    → get_or xs 0 0 ≡ 48 + h / 10 → get_or xs 1 0 ≡ 48 + h % 10 → get_or xs 2 0 ≡ 48 + y / 10 → get_or xs 3 0 ≡ 48 + y % 10
    → get_or xs 4 0 ≡ 45 → get_or xs 5 0 ≡ 48 + m / 10 → get_or xs 6 0 ≡ 48 + m % 10 → get_or xs 7 0 ≡ 45
    → get_or xs 8 0 ≡ 48 + n / 10 → get_or xs 9 0 ≡ 48 + n % 10 → day_text z ≡ Some (take 10 xs)
day_here xs d h y m n z long ymd e low in_range hs ys a0 a1 a2 a3 a4 a5 a6 a7 a8 a9 =
    let high = in_range.1 in
    let s = same_day d z low (omega (arith, signed_arith)) e in
    let year : unsigned_abs d.year ≡ h * 100 + y = ap unsigned_abs ymd.0 in
    let month : d.month ≡ m = let p = ymd.1 in cc in
    let day : d.day ≡ n = let p = ymd.2 in cc in
    let century : (h * 100 + y) / 100 ≡ h = omega arith in
    let rest : (h * 100 + y) % 100 ≡ y = omega arith in
    sym (printed d z (grind (arith, ints)) (grind (arith, ints)) s)
    ∙ ap Some (rw (ten xs long, a0, a1, a2, a3, a4, a5, a6, a7, a8, a9, year, month, day, century, rest) refl)

-- the text of a day in the years 0001 to 9999 is that of one day
abbrev date_at : (y m n : ℕ) → IsCalendarDate (pos y) (pos m) (pos n) → Date
date_at y m n h =
    let a = h.1 in let b = h.2 in record {
      year = pos y;
      month = m;
      day = n;
      year_in = h.0;
      month_in = (omega (arith, signed_arith, a.0), omega (arith, signed_arith, a.1));
      day_in = (omega (arith, signed_arith, b.0), omega (arith, signed_arith, b.1));
    }

record Alike (c d : Civil) (r s : List ℕ) : Type 0 where
  pub year : c.year ≡ d.year
  pub month : c.month ≡ d.month
  pub day : c.day ≡ d.day
  pub rest : r ≡ s

two : (a b : ℕ) → a < 100 → b < 100 → 48 + a / 10 ≡ 48 + b / 10 → 48 + a % 10 ≡ 48 + b % 10 → a ≡ b
two a b p q e f = omega arith

alike : (c d : Civil) (r s : List ℕ) → c.year < 10_000 → c.month < 100 → c.day < 100 → d.year < 10_000 → d.month < 100 → d.day < 100
    → civil_text c ++ r ≡ civil_text d ++ s → Alike c d r s
alike c d r s cy cm cd dy dm dd e =
    let h0 : 48 + c.year / 100 / 10 ≡ 48 + d.year / 100 / 10 = cc in
    let h1 : 48 + c.year / 100 % 10 ≡ 48 + d.year / 100 % 10 = cc in
    let y0 : 48 + c.year % 100 / 10 ≡ 48 + d.year % 100 / 10 = cc in
    let y1 : 48 + c.year % 100 % 10 ≡ 48 + d.year % 100 % 10 = cc in
    let m0 : 48 + c.month / 10 ≡ 48 + d.month / 10 = cc in
    let m1 : 48 + c.month % 10 ≡ 48 + d.month % 10 = cc in
    let d0 : 48 + c.day / 10 ≡ 48 + d.day / 10 = cc in
    let d1 : 48 + c.day % 10 ≡ 48 + d.day % 10 = cc in
    let h = two (c.year / 100) (d.year / 100) (omega arith) (omega arith) h0 h1 in
    let y = two (c.year % 100) (d.year % 100) (omega arith) (omega arith) y0 y1 in
    record {
      year = omega (arith, h, y);
      month = two c.month d.month cm dm m0 m1;
      day = two c.day d.day cd dd d0 d1;
      rest = cc;
    }

-- texts that begin with those of days are the same only where the days and what stands behind them are
days_same : (z w : ℤ) (t v r s : List ℕ) → day_text z ≡ Some t → day_text w ≡ Some v → t ++ r ≡ v ++ s → (z ≡ w) × (r ≡ s)
days_same z w t v r s e f g =
    let a = day_of z t e in
    let b = day_of w v f in
    let k : civil_text a.civil ++ r ≡ civil_text b.civil ++ s =
    ap (λ x. x ++ r) a.text_is ∙ g ∙ sym (ap (λ x. x ++ s) b.text_is) in
    let p = alike a.civil b.civil r s a.year a.month a.day b.year b.month b.day k in
    let d = date_at a.civil.year a.civil.month a.civil.day a.date in
    (sym (a.number d (refl, refl, refl)) ∙ b.number d (ap pos p.year, ap pos p.month, ap pos p.day), p.rest)

pub one_day : (z w : ℤ) (t : List ℕ) → day_text z ≡ Some t → day_text w ≡ Some t → z ≡ w
one_day z w t e f = (days_same z w t t [] [] e f refl).0

clock_same : (n m : ℕ) (r s : List ℕ) → n < 86_400 → m < 86_400 → clock_text n ++ r ≡ clock_text m ++ s → (n ≡ m) × (r ≡ s)
clock_same n m r s p q e =
    let h0 : 48 + n / 3_600 / 10 ≡ 48 + m / 3_600 / 10 = cc in
    let h1 : 48 + n / 3_600 % 10 ≡ 48 + m / 3_600 % 10 = cc in
    let m0 : 48 + n / 60 % 60 / 10 ≡ 48 + m / 60 % 60 / 10 = cc in
    let m1 : 48 + n / 60 % 60 % 10 ≡ 48 + m / 60 % 60 % 10 = cc in
    let s0 : 48 + n % 60 / 10 ≡ 48 + m % 60 / 10 = cc in
    let s1 : 48 + n % 60 % 10 ≡ 48 + m % 60 % 10 = cc in
    let h = two (n / 3_600) (m / 3_600) (omega arith) (omega arith) h0 h1 in
    let l = two (n / 60 % 60) (m / 60 % 60) (omega arith) (omega arith) m0 m1 in
    let k = two (n % 60) (m % 60) (omega arith) (omega arith) s0 s1 in
    (omega (arith, h, l, k), cc)

three : (a b : ℕ) → a < 1_000 → b < 1_000 → 48 + a / 100 ≡ 48 + b / 100 → 48 + a % 100 / 10 ≡ 48 + b % 100 / 10
    → 48 + a % 100 % 10 ≡ 48 + b % 100 % 10 → a ≡ b
three a b p q e f g = omega arith

threes_same : (a b : ℕ) (r s : List ℕ) → a < 1_000 → b < 1_000 → three_digits a ++ r ≡ three_digits b ++ s → (a ≡ b) × (r ≡ s)
threes_same a b r s p q e =
    let x : 48 + a / 100 ≡ 48 + b / 100 = cc in
    let y : 48 + a % 100 / 10 ≡ 48 + b % 100 / 10 = cc in
    let z : 48 + a % 100 % 10 ≡ 48 + b % 100 % 10 = cc in
    (three a b p q x y z, cc)

fraction_same : (unit : TimeUnit) (n m : ℕ) (r s : List ℕ) → n < per_second unit → m < per_second unit
    → fraction_text unit n ++ r ≡ fraction_text unit m ++ s → n ≡ m
fraction_same u.Second n m r s p q e = omega arith
fraction_same u.Millisecond n m r s p q e =
    (threes_same n m r s p q (let f : three_digits n ++ r ≡ three_digits m ++ s = cc in f)).0
fraction_same u.Microsecond n m r s p q e =
    let f : three_digits (n / 1_000) ++ (three_digits (n % 1_000) ++ r)
    ≡ three_digits (m / 1_000) ++ (three_digits (m % 1_000) ++ s) = cc in
    let a = threes_same (n / 1_000) (m / 1_000) _ _ (omega arith) (omega arith) f in
    let b = threes_same (n % 1_000) (m % 1_000) r s (omega arith) (omega arith) a.1 in
    omega (arith, a.0, b.0)
fraction_same u.Nanosecond n m r s p q e =
    let f : three_digits (n / 1_000_000) ++ (three_digits (n / 1_000 % 1_000) ++ (three_digits (n % 1_000) ++ r))
    ≡ three_digits (m / 1_000_000) ++ (three_digits (m / 1_000 % 1_000) ++ (three_digits (m % 1_000) ++ s)) = cc in
    let a = threes_same (n / 1_000_000) (m / 1_000_000) _ _ (omega arith) (omega arith) f in
    let b = threes_same (n / 1_000 % 1_000) (m / 1_000 % 1_000) _ _ (omega arith) (omega arith) a.1 in
    let d = threes_same (n % 1_000) (m % 1_000) r s (omega arith) (omega arith) b.1 in
    omega (arith, a.0, b.0, d.0)

whole : (unit : TimeUnit) (n m : ℕ) → n < ticks_in_a_day unit → m < ticks_in_a_day unit
    → (n / per_second unit < 86_400) × (m / per_second unit < 86_400) × (n % per_second unit < per_second unit)
    × (m % per_second unit < per_second unit)
    × (n / per_second unit ≡ m / per_second unit → n % per_second unit ≡ m % per_second unit → n ≡ m)
whole u.Second n m p q = (omega arith, omega arith, omega arith, omega arith, λ e f. omega arith)
whole u.Millisecond n m p q = (omega arith, omega arith, omega arith, omega arith, λ e f. omega arith)
whole u.Microsecond n m p q = (omega arith, omega arith, omega arith, omega arith, λ e f. omega arith)
whole u.Nanosecond n m p q = (omega arith, omega arith, omega arith, omega arith, λ e f. omega arith)

times_same : (unit : TimeUnit) (n m : ℕ) (r s : List ℕ) → n < ticks_in_a_day unit → m < ticks_in_a_day unit
    → time_of_day unit n ++ r ≡ time_of_day unit m ++ s → n ≡ m
times_same unit n m r s p q e =
    let w = whole unit n m p q in
    let f : clock_text (n / per_second unit) ++ (fraction_text unit (n % per_second unit) ++ r)
    ≡ clock_text (m / per_second unit) ++ (fraction_text unit (m % per_second unit) ++ s) =
    sym (append_assoc (clock_text (n / per_second unit)) _ r) ∙ e ∙ append_assoc (clock_text (m / per_second unit)) _ s in
    let a = clock_same _ _ _ _ w.0 w.1 f in
    w.4 a.0 (fraction_same unit _ _ r s w.2 w.3 a.1)

-- and that of a point in time
pub one_timestamp : (unit : TimeUnit) (zone : Option (List ℕ)) (z w : ℤ) (t : List ℕ) → timestamp_text unit zone z ≡ Some t
    → timestamp_text unit zone w ≡ Some t → z ≡ w
one_timestamp unit zone z w t e f =
    let a = timestamp_of unit zone z t e in
    let b = timestamp_of unit zone w t f in
    let k = days_same a.day b.day a.front b.front _ _ a.front_is b.front_is (sym a.text_is ∙ b.text_is) in
    let tail : time_of_day unit a.units ++ a.behind ≡ time_of_day unit b.units ++ b.behind = let l = k.1 in cc in
    let units = times_same unit a.units b.units a.behind b.behind a.within b.within tail in
    sym a.number ∙ rw (k.0, units) b.number

-- the text of nine digits behind a point
pub nine_digits : (xs : List ℕ) (a b d n : ℕ) → length xs ≡ 10 → a < 1_000 → b < 1_000 → d < 1_000
    → n ≡ a * 1_000_000 + b * 1_000 + d → get_or xs 0 0 ≡ 46
    → get_or xs 1 0 ≡ 48 + a / 100 → get_or xs 2 0 ≡ 48 + a % 100 / 10 → get_or xs 3 0 ≡ 48 + a % 100 % 10
    → get_or xs 4 0 ≡ 48 + b / 100 → get_or xs 5 0 ≡ 48 + b % 100 / 10 → get_or xs 6 0 ≡ 48 + b % 100 % 10
    → get_or xs 7 0 ≡ 48 + d / 100 → get_or xs 8 0 ≡ 48 + d % 100 / 10 → get_or xs 9 0 ≡ 48 + d % 100 % 10
    → xs ≡ fraction_text u.Nanosecond n
nine_digits xs a b d n l p q r e x0 x1 x2 x3 x4 x5 x6 x7 x8 x9 =
    let x : n / 1_000_000 ≡ a = omega arith in
    let y : n / 1_000 % 1_000 ≡ b = omega arith in
    let z : n % 1_000 ≡ d = omega arith in
    sym (take_all 10 xs (omega arith)) ∙ rw (ten xs (omega arith), x0, x1, x2, x3, x4, x5, x6, x7, x8, x9, x, y, z) refl

-- what stands behind eighteen bytes and one more
pub behind_one : (xs : List ℕ) → take (length (take (length xs - 18) (drop 18 xs)) - 1) (drop 1 (take (length xs - 18) (drop 18 xs)))
    ≡ take (length xs - 19) (drop 19 xs)
behind_one xs =
    take_rest (take (length xs - 18) (drop 18 xs)) 1 ∙ ap (drop 1) (take_rest xs 18) ∙ drop-drop 1 18 xs ∙ sym (take_rest xs 19)

split : (unit : TimeUnit) (seconds part : ℕ) → seconds < 86_400 → part < per_second unit
    → ((seconds * per_second unit + part) / per_second unit ≡ seconds) × ((seconds * per_second unit + part) % per_second unit ≡ part)
split u.Second seconds part p q = (omega arith, omega arith)
split u.Millisecond seconds part p q = (omega arith, omega arith)
split u.Microsecond seconds part p q = (omega arith, omega arith)
split u.Nanosecond seconds part p q = (omega arith, omega arith)

-- a text whose first ten bytes, the byte behind them, the next eight and the rest are known
pub put_together : (text clock rest : List ℕ) → 19 ≤ length text → get_or text 10 0 ≡ 84
    → take 8 (take (length text - 11) (drop 11 text)) ≡ clock → take (length text - 19) (drop 19 text) ≡ rest
    → text ≡ take 10 text ++ (84 ∷ (clock ++ rest))
put_together text clock rest long t e f =
    let g : take 8 (drop 11 text) ≡ clock = sym (ap (take 8) (take_rest text 11)) ∙ e in
    let h : drop 19 text ≡ rest = sym (take_rest text 19) ∙ f in
    let k : drop 8 (drop 11 text) ≡ rest = drop-drop 8 11 text ∙ h in
    let l : drop 11 text ≡ clock ++ rest = sym (take-append-drop 8 (drop 11 text)) ∙ rw (g, k) refl in
    let m : drop 10 text ≡ 84 ∷ (clock ++ rest) = drop_more text 10 0 (omega arith) ∙ rw (t, l) refl in
    sym (take-append-drop 10 text) ∙ ap (λ x. take 10 text ++ x) m

-- the number of a day, of seconds and of a part of one has the text of these
pub instant_here : (unit : TimeUnit) (zone : Option (List ℕ)) (day z : ℤ) (units seconds part : ℕ) (text front : List ℕ)
    → int_div_euclid z (pos (ticks_in_a_day unit)) ≡ day → unsigned_abs (int_rem_euclid z (pos (ticks_in_a_day unit))) ≡ units
    → units ≡ seconds * per_second unit + part → seconds < 86_400 → part < per_second unit → day_text day ≡ Some (take 10 front)
    → front ≡ take 10 front ++ (84 ∷ (clock_text seconds ++ fraction_text unit part)) → text ≡ front ++ zone_text zone
    → timestamp_text unit zone z ≡ Some text
instant_here unit zone day z units seconds part text front a b c p q d e f =
    let s = split unit seconds part p q in
    let time : time_of_day unit units ≡ clock_text seconds ++ fraction_text unit part = rw (c, s.0, s.1) refl in
    let whole : (take 10 front ++ (84 ∷ time_of_day unit units)) ++ zone_text zone ≡ text =
    ap (λ x. (take 10 front ++ (84 ∷ x)) ++ zone_text zone) time ∙ ap (λ x. x ++ zone_text zone) (sym e) ∙ sym f in
    rw (a, b, d) (ap Some whole)

-- the same where there may be no such number
pub instant_if : (unit : TimeUnit) (zone : Option (List ℕ)) (r : Option ℤ) (day : ℤ) (units seconds part : ℕ) (text front : List ℕ)
    → IfSome r (λ z. int_div_euclid z (pos (ticks_in_a_day unit)) ≡ day)
    → IfSome r (λ z. unsigned_abs (int_rem_euclid z (pos (ticks_in_a_day unit))) ≡ units)
    → units ≡ seconds * per_second unit + part → seconds < 86_400 → part < per_second unit → day_text day ≡ Some (take 10 front)
    → front ≡ take 10 front ++ (84 ∷ (clock_text seconds ++ fraction_text unit part)) → text ≡ front ++ zone_text zone
    → IfSome r (λ z. timestamp_text unit zone z ≡ Some text)
instant_if unit timezone None day units seconds part text front a b c p q d e f = tt
instant_if unit timezone (Some z) day units seconds part text front a b c p q d e f =
    instant_here unit timezone day z units seconds part text front a b c p q d e f
