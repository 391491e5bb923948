-- Texts at a place, one behind another.
use Rattle.std.proofs.Common.{◌≡◌, ◌≤◌, ◌<◌, List, ◌∷◌, ◌++◌, [], ℕ, Option, Some, None, refl, length, take, drop}
use Rattle.std.proofs.Common.{sym, ap, subst, append_assoc, unsigned_abs, ℤ, pos, ◌+◌, ◌∙◌, arith}
use Rattle.std.proofs.lemmas.List.{length-append, length-take-le, take_at, drop_at, drop-drop, drop-set, take-set}
use Rattle.std.proofs.lemmas.List.{take-append-drop}
use Rattle.jiff_core.specs.declared.civil.date.Date.{Date}
use Rattle.std.specs.Int.{int_div_euclid, int_rem_euclid}
use Rattle.std.specs.Prelude.{IfSome, option_map, slice_set}
use Rattle.std.proofs.lemmas.Option.{same_Some}
use Rattle.ipc_model.specs.Ranges.{ticks_in_a_day}
use Rattle.ipc_model.specs.declared.schema.TimeUnit.{TimeUnit}
use Rattle.ipc_text_temporal.specs.Calendar.{two_digits, four_digits, day_text}
use Rattle.ipc_text_temporal.specs.Temporals.{time_of_day, zone_text, timestamp_text}
use Rattle.ipc_text_temporal.specs.Places.{with_text, WritesText}
use Rattle.ipc_text_temporal.specs.ShortTexts.{IsPlain}

-- where a text ends that was written into bytes
front_length : (bytes : List ℕ) (at : ℕ) (text : List ℕ) → at ≤ length bytes → length (take at bytes ++ text) ≡ at + length text
front_length bytes at text inside =
    length-append (take at bytes) text ∙ ap (λ n. n + length text) (length-take-le at bytes inside)

-- what stands up to its end
pub front : (bytes : List ℕ) (at : ℕ) (text : List ℕ) → at ≤ length bytes
    → take (at + length text) (with_text bytes at text) ≡ take at bytes ++ text
front bytes at text inside =
    take_at (take at bytes ++ text) (drop (at + length text) bytes) (at + length text) (front_length bytes at text inside)

-- what stands behind it
pub behind : (bytes : List ℕ) (at : ℕ) (text : List ℕ) → at ≤ length bytes
    → drop (at + length text) (with_text bytes at text) ≡ drop (at + length text) bytes
behind bytes at text inside =
    drop_at (take at bytes ++ text) (drop (at + length text) bytes) (at + length text) (front_length bytes at text inside)

-- what stands further behind
further : (bytes : List ℕ) (at n : ℕ) (text : List ℕ) → at ≤ length bytes
    → drop (at + length text + n) (with_text bytes at text) ≡ drop (at + length text + n) bytes
further bytes at n text inside =
    sym (drop-drop n (at + length text) (with_text bytes at text))
    ∙ (ap (drop n) (behind bytes at text inside) ∙ drop-drop n (at + length text) bytes)

-- a text, and another behind it, are one text
pub joined : (bytes once twice : List ℕ) (at next : ℕ) (a b : List ℕ) → at ≤ length bytes
    → once ≡ with_text bytes at a → twice ≡ with_text once next b → next ≡ at + length a
    → twice ≡ with_text bytes at (a ++ b)
joined bytes once twice at next a b inside first second place =
    let n : at + length a + length b ≡ at + length (a ++ b) = omega (arith, length-append a b) in
    let f = front bytes at a inside in
    let g = further bytes at (length b) a inside in
    rw (second, place, first, f, g, n, append_assoc (take at bytes) a b) refl

-- a byte is a text of one
pub one_byte : (bytes : List ℕ) (at byte : ℕ) → at + 1 ≤ length bytes → slice_set bytes at byte ≡ with_text bytes at (byte ∷ [])
one_byte bytes at byte room =
    let inside : at < length bytes = omega (arith, room) in
    sym (take-append-drop at (slice_set bytes at byte))
    ∙ rw (take-set bytes at byte, drop-set bytes at byte inside, append_assoc (take at bytes) (byte ∷ []) (drop (at + 1) bytes)) refl

-- what stands up to the end of a text, where one was written
pub up_to_end : (o : Option (List ℕ)) (at : ℕ) (old new : List ℕ) (end : Option ℕ) → WritesText o at old new end
    → at + 32 ≤ length old
    → option_map (λ e. take e new) end ≡ option_map (λ text. take at old ++ text) o
up_to_end None at old new end w room = rw w.1 refl
up_to_end (Some text) at old new end w room =
    let f = front old at text (omega (arith, room)) in
    rw (w.1, w.0, f) refl

-- at the beginning, what was written is the text
pub at_front : (o : Option (List ℕ)) (old new : List ℕ) (end : ℕ) → WritesText o 0 old new (Some end) → o ≡ Some (take end new)
at_front None old new end w = absurd cc
at_front (Some text) old new end w = rw (same_Some _ _ w.1, w.0) (ap Some (sym (front old 0 text (omega arith))))

-- a text at the beginning is plain where it is
pub plain_front : (o : Option (List ℕ)) (old new : List ℕ) (end : ℕ) → WritesText o 0 old new (Some end) → IfSome o IsPlain
    → IsPlain (take end new)
plain_front o old new end w plain = let p = rw (at_front o old new end w) at plain in p

-- the parts of a day, each behind the one before, are its text
pub day_placed : (at : ℕ) (b0 b1 b2 b3 b4 b5 : List ℕ) (y m d : ℕ) (date : Date) (o : Option (List ℕ)) → at ≤ length b0
    → b1 ≡ with_text b0 at (four_digits y)
    → b2 ≡ with_text b1 (at + 4) (45 ∷ [])
    → b3 ≡ with_text b2 (at + 5) (two_digits m)
    → b4 ≡ with_text b3 (at + 7) (45 ∷ [])
    → b5 ≡ with_text b4 (at + 8) (two_digits d)
    → y ≡ unsigned_abs date.year → m ≡ date.month → d ≡ date.day
    → Some (four_digits (unsigned_abs date.year) ++ 45 ∷ two_digits date.month ++ 45 ∷ two_digits date.day) ≡ o
    → WritesText o at b0 b5 (Some (at + 10))
day_placed at b0 b1 b2 b3 b4 b5 y m d date o inside e1 e2 e3 e4 e5 year month day is =
    let p2 = joined b0 b1 b2 at (at + 4) (four_digits y) (45 ∷ []) inside e1 e2 refl in
    let p3 = joined b0 b2 b3 at (at + 5) (four_digits y ++ 45 ∷ []) (two_digits m) inside p2 e3 refl in
    let p4 = joined b0 b3 b4 at (at + 7) (four_digits y ++ 45 ∷ two_digits m) (45 ∷ []) inside p3 e4 refl in
    let p5 = joined b0 b4 b5 at (at + 8) (four_digits y ++ 45 ∷ two_digits m ++ 45 ∷ []) (two_digits d) inside p4 e5 refl in
    let parts : b5
    ≡ with_text b0 at (four_digits (unsigned_abs date.year) ++ 45 ∷ two_digits date.month ++ 45 ∷ two_digits date.day) =
    rw (sym year, sym month, sym day) p5 in
    subst (λ text. WritesText text at b0 b5 (Some (at + 10))) is (parts, refl)

-- the same of a time of day
pub clock_placed : (at : ℕ) (b0 b1 b2 b3 b4 b5 : List ℕ) (h m s : ℕ) → at ≤ length b0
    → b1 ≡ with_text b0 at (two_digits h)
    → b2 ≡ with_text b1 (at + 2) (58 ∷ [])
    → b3 ≡ with_text b2 (at + 3) (two_digits m)
    → b4 ≡ with_text b3 (at + 5) (58 ∷ [])
    → b5 ≡ with_text b4 (at + 6) (two_digits s)
    → b5 ≡ with_text b0 at (two_digits h ++ 58 ∷ two_digits m ++ 58 ∷ two_digits s)
clock_placed at b0 b1 b2 b3 b4 b5 h m s inside e1 e2 e3 e4 e5 =
    let p2 = joined b0 b1 b2 at (at + 2) (two_digits h) (58 ∷ []) inside e1 e2 refl in
    let p3 = joined b0 b2 b3 at (at + 3) (two_digits h ++ 58 ∷ []) (two_digits m) inside p2 e3 refl in
    let p4 = joined b0 b3 b4 at (at + 5) (two_digits h ++ 58 ∷ two_digits m) (58 ∷ []) inside p3 e4 refl in
    joined b0 b4 b5 at (at + 6) (two_digits h ++ 58 ∷ two_digits m ++ 58 ∷ []) (two_digits s) inside p4 e5 refl

behind_day : (at start end last : ℕ) (b0 b1 b2 b3 b4 : List ℕ) (time zone : List ℕ) (day : Option (List ℕ)) → at ≤ length b0
    → WritesText day at b0 b1 (Some start)
    → b2 ≡ with_text b1 start (84 ∷ [])
    → b3 ≡ with_text b2 (start + 1) time → end ≡ start + 1 + length time
    → b4 ≡ with_text b3 end zone → last ≡ end + length zone
    → WritesText (option_map (λ d. d ++ 84 ∷ time ++ zone) day) at b0 b4 (Some last)
behind_day at start end last b0 b1 b2 b3 b4 time zone None inside w e2 e3 place e4 is = absurd (let f = w.1 in cc)
behind_day at start end last b0 b1 b2 b3 b4 time zone (Some d) inside w e2 e3 place e4 is =
    let s : start ≡ at + length d = same_Some _ _ w.1 in
    let mark : length (d ++ 84 ∷ []) ≡ length d + 1 = length-append d (84 ∷ []) in
    let p2 = joined b0 b1 b2 at start d (84 ∷ []) inside w.0 e2 s in
    let p3 = joined b0 b2 b3 at (start + 1) (d ++ 84 ∷ []) time inside p2 e3 (omega (arith, s, mark)) in
    let length3 = length-append (d ++ 84 ∷ []) time in
    let p4 = joined b0 b3 b4 at end (d ++ 84 ∷ [] ++ time) zone inside p3 e4 (omega (arith, s, mark, length3, place)) in
    let t : d ++ 84 ∷ [] ++ time ++ zone ≡ d ++ 84 ∷ time ++ zone = simp append_assoc refl in
    let length4 = length-append (d ++ 84 ∷ [] ++ time) zone in
    let n : last ≡ at + length (d ++ 84 ∷ [] ++ time ++ zone) = omega (arith, s, mark, length3, length4, place, is) in
    (p4 ∙ ap (with_text b0 at) t, ap Some (n ∙ ap (λ x. at + length x) t))

-- a day, `T`, a time of day and a zone, each behind the one before, are the text of a point in time
pub timestamp_placed : (unit : TimeUnit) (zone : Option (List ℕ)) (z q : ℤ) (n : ℕ) (at start end last : ℕ) (b0 b1 b2 b3 b4 : List ℕ)
    → at ≤ length b0
    → WritesText (day_text q) at b0 b1 (Some start)
    → b2 ≡ with_text b1 start (84 ∷ [])
    → b3 ≡ with_text b2 (start + 1) (time_of_day unit n) → end ≡ start + 1 + length (time_of_day unit n)
    → b4 ≡ with_text b3 end (zone_text zone) → last ≡ end + length (zone_text zone)
    → q ≡ int_div_euclid z (pos (ticks_in_a_day unit)) → n ≡ unsigned_abs (int_rem_euclid z (pos (ticks_in_a_day unit)))
    → WritesText (timestamp_text unit zone z) at b0 b4 (Some last)
timestamp_placed unit zone z q n at start end last b0 b1 b2 b3 b4 inside w e2 e3 place e4 is day time =
    rw (sym day, sym time)
    (behind_day at start end last b0 b1 b2 b3 b4 (time_of_day unit n) (zone_text zone) (day_text q) inside w e2 e3 place e4 is)

no_day : (at : ℕ) (b0 b1 : List ℕ) (day : Option (List ℕ)) (more : List ℕ → List ℕ) → WritesText day at b0 b1 None
    → WritesText (option_map more day) at b0 b1 None
no_day at b0 b1 None more w = w
no_day at b0 b1 (Some d) more w = absurd (let f = w.1 in cc)

-- where there is no day, there is no point in time
pub timestamp_lacks : (unit : TimeUnit) (zone : Option (List ℕ)) (z q : ℤ) (at : ℕ) (b0 b1 : List ℕ) → WritesText (day_text q) at b0 b1 None
    → q ≡ int_div_euclid z (pos (ticks_in_a_day unit)) → WritesText (timestamp_text unit zone z) at b0 b1 None
timestamp_lacks unit timezone z q at b0 b1 w day = rw (sym day) (no_day at b0 b1 (day_text q) _ w)
