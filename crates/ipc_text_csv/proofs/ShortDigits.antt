-- The number of a few decimal digits.
use Rattle.std.proofs.Common.{sym, subst, ℕ, ◌+◌, ◌<◌, ◌≤◌, ◌^◌, List, length, get_or, take, arith}
use Rattle.std.specs.Char.{digit_value}
use Rattle.std.specs.Str.Parse.{AllDigits, digits_value}
use Rattle.std.proofs.lemmas.Int.Digits.{digits_push}
use Rattle.std.proofs.lemmas.List.{length-take-le, take_more}
use Rattle.std.proofs.lemmas.Str.Parse.{digits_value_short, numerals_by_value, tells_digits}

-- at most 18 digits make less than 10^18
pub short_below : (ds : List ℕ) (i : ℕ) → AllDigits 10 (take i ds) → i ≤ length ds → length ds ≤ 18 → digits_value 10 (take i ds) < 10 ^ 18
short_below ds i all inside short = digits_value_short (numerals_by_value _ tells_digits) (take i ds) 18 all
    (omega (arith, length-take-le i ds inside, inside, short))

-- one digit more
pub one_more : (ds : List ℕ) (i : ℕ) → AllDigits 10 (take i ds) → i < length ds → digit_value (get_or ds i 0) < 10
    → AllDigits 10 (take (i + 1) ds)
one_more ds i all inside digit = subst (AllDigits 10) (sym (take_more ds i 0 inside)) (digits_push 10 (take i ds) (get_or ds i 0) all digit)
