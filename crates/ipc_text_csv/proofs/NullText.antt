-- Only null has the text of null.
use Rattle.std.proofs.Common.{◌≡◌, ℕ, ℤ, pos, negsuc, ◌<◌, ◌^◌, Bool, true, false, List, [], ◌∷◌, Some, refl, subst, inl, inr, arith}
use Rattle.std.proofs.Common.{◌∙◌, ◌≢◌, ◌≤◌, ◌+◌, ◌/◌, ◌%◌, ◌||◌, ◌++◌, sym, None, false, codes, length, suc, append-nil, if◌then◌else◌}
use Rattle.std.proofs.Common.{FitsSigned, decimal}
use Rattle.std.specs.Prelude.{◌==◌}
use Rattle.std.specs.Int.{w64}
use Rattle.std.specs.Fmt.{signed_decimal}
use Rattle.std.specs.Str.{bytes_eq}
use Rattle.std.specs.Str.Parse.{AllDigits}
use Rattle.std.proofs.lemmas.Str.Parse.{digit_from_value}
use Rattle.std.proofs.lemmas.Slice.Eq.{bytes_eq-Decides}
use Rattle.std.proofs.lemmas.Bool.{cases_Bool}
use Rattle.std.proofs.lemmas.Bool.Decides.{Decides-eqb, nat_tests}
use Rattle.std.specs.Bool.{Decides}
use Rattle.std.proofs.lemmas.Fmt.{decimal_is_IsNumeral, decimal_nonempty}
use Rattle.hex.specs.Hex.{IsBytes, encode_lower, encode_with}
use Rattle.jiff_core.proofs.SignedLemmas.{signed_arith}
use Rattle.ipc_model.specs.Fits.{FitsOwnType, IsOfKind}
use Rattle.ipc_model.specs.declared.schema.DataType.{DataType}
use Rattle.ipc_model.specs.declared.schema.DataType.TheVariants as t
use Rattle.ipc_model.specs.declared.schema.DateUnit.TheVariants as d
use Rattle.ipc_model.specs.declared.schema.TimeUnit.TheVariants as u
use Rattle.ipc_model.specs.declared.schema.IntBits.TheVariants as b
use Rattle.ipc_model.specs.declared.value.Value.{Value}
use Rattle.ipc_model.specs.declared.value.Value.TheOpen.{Value-F}
use Rattle.ipc_text_csv.specs.Dialects.{begins_number, is_hexadecimal, standard_null}
use Rattle.ipc_text_csv.specs.declared.dialect.Dialect.{Dialect}
use Rattle.ipc_text_csv.specs.CsvRows.{StandsFor}
use Rattle.ipc_text_csv.specs.RowCsv.{null_text, int_text, with_backslash, bool_text, unless_null, chars_text}
use Rattle.ipc_text_csv.proofs.PlainDigits.{in_pairs}
use Rattle.ipc_model.specs.Ranges.{ticks_in_a_day}
use Rattle.ipc_model.specs.declared.schema.TimeUnit.{TimeUnit}
use Rattle.ipc_text_temporal.specs.Calendar.{day_text, two_digits}
use Rattle.ipc_text_temporal.specs.Temporals.{per_second, fraction_text}
use Rattle.ipc_text_temporal.proofs.Dates.{date_of, timestamp_of}
use Rattle.ipc_text_temporal.proofs.Days.{day_of}
use Rattle.ipc_text_temporal.proofs.Times.{time_of}
use Rattle.std.proofs.lemmas.Option.{same_Some}

-- a signed number of a type's own has 64 bits
pub signed_fits : (kind : DataType) (n : ℕ) (z : ℤ) → IsOfKind kind n (Value-F.Int z) → FitsSigned w64 z
signed_fits (t.Int b.B8 true) n z h = omega (arith, signed_arith)
signed_fits (t.Int b.B16 true) n z h = omega (arith, signed_arith)
signed_fits (t.Int b.B32 true) n z h = omega (arith, signed_arith)
signed_fits (t.Int b.B64 true) n z h = omega (arith, signed_arith)
signed_fits (t.Date d.Day) n z h = omega (arith, signed_arith)
signed_fits (t.Date d.Millisecond) n z h = let p = h.0 in omega (arith, signed_arith)
signed_fits (t.Timestamp unit timezone) n z h = omega (arith, signed_arith)
signed_fits (t.Time u.Second) n z h = omega (arith, signed_arith)
signed_fits (t.Time u.Millisecond) n z h = omega (arith, signed_arith)
signed_fits (t.Time u.Microsecond) n z h = omega (arith, signed_arith)
signed_fits (t.Time u.Nanosecond) n z h = omega (arith, signed_arith)
signed_fits (t.Duration unit) n z h = omega (arith, signed_arith)
signed_fits _ n z h = absurd h

-- an unsigned number of a type's own has 64 bits
pub unsigned_fits : (kind : DataType) (n m : ℕ) → IsOfKind kind n (Value-F.UInt m) → m < 2 ^ 64
unsigned_fits (t.Int b.B8 false) n m h = omega arith
unsigned_fits (t.Int b.B16 false) n m h = omega arith
unsigned_fits (t.Int b.B32 false) n m h = omega arith
unsigned_fits (t.Int b.B64 false) n m h = omega arith
unsigned_fits (t.Date d.Day) n m h = absurd h
unsigned_fits (t.Date d.Millisecond) n m h = absurd h
unsigned_fits _ n m h = absurd h

begins_digit : (d : ℕ) (ds : List ℕ) → 48 ≤ d → d ≤ 57 → begins_number (d ∷ ds) ≡ true
begins_digit d [] low high = grind (arith, nat_tests)
begins_digit d (x ∷ ds) low high = grind (arith, nat_tests)

begins_minus : (d : ℕ) (ds : List ℕ) → 48 ≤ d → d ≤ 57 → begins_number (45 ∷ d ∷ ds) ≡ true
begins_minus d ds low high = grind (arith, nat_tests)

begins_digits : (ds : List ℕ) → 0 < length ds → AllDigits 10 ds → begins_number ds ≡ true
begins_digits [] some all = absurd (omega (arith, some))
begins_digits (d ∷ ds) some all = let r = digit_from_value d all.0 in begins_digit d ds r.0 r.1

minus_digits : (ds : List ℕ) → 0 < length ds → AllDigits 10 ds → begins_number (45 ∷ ds) ≡ true
minus_digits [] some all = absurd (omega (arith, some))
minus_digits (d ∷ ds) some all = let r = digit_from_value d all.0 in begins_minus d ds r.0 r.1

decimal_begins : (n : ℕ) → n < 2 ^ 64 → begins_number (decimal n) ≡ true
decimal_begins n lt = begins_digits (decimal n) (decimal_nonempty n lt) (decimal_is_IsNumeral n lt).0.1

signed_begins : (z : ℤ) → FitsSigned w64 z → begins_number (signed_decimal z) ≡ true
signed_begins (pos n) f = decimal_begins n (omega (arith, signed_arith))
signed_begins (negsuc n) f =
    let small : suc n < 2 ^ 64 = omega (arith, signed_arith) in
    minus_digits (decimal (suc n)) (decimal_nonempty (suc n) small) (decimal_is_IsNumeral (suc n) small).0.1

day_begins : (z : ℤ) (front behind : List ℕ) → day_text z ≡ Some front → begins_number (front ++ behind) ≡ true
day_begins z front behind e =
    let d = day_of z front e in
    subst (λ (t : List ℕ). begins_number (t ++ behind) ≡ true) d.text_is
    (let y = d.year in begins_digit (48 + d.civil.year / 100 / 10)
    ((48 + d.civil.year / 100 % 10) ∷ (two_digits (d.civil.year % 100) ++ 45 ∷ two_digits d.civil.month ++ 45 ∷ two_digits d.civil.day ++
    behind))
    (omega arith) (omega (arith, y)))

hours : (unit : TimeUnit) (n : ℕ) → n < ticks_in_a_day unit → n / per_second unit / 3_600 / 10 < 10
hours u.Second n h = omega (arith, h)
hours u.Millisecond n h = omega (arith, h)
hours u.Microsecond n h = omega (arith, h)
hours u.Nanosecond n h = omega (arith, h)

-- the text of a number of a type's own begins as one
number_begins : (kind : DataType) (n : ℕ) (z : ℤ) (text : List ℕ) → IsOfKind kind n (Value-F.Int z) → int_text kind z ≡ Some text
    → begins_number text ≡ true
number_begins (t.Date unit) n z text h e =
    let a = date_of unit z text e in
    subst (λ (t : List ℕ). begins_number t ≡ true) (append-nil text) (day_begins a.day text [] a.text_is)
number_begins (t.Time unit) n z text h e =
    let a = time_of unit z text e in
    let first = hours unit a.number a.within in
    subst (λ (t : List ℕ). begins_number t ≡ true) (sym a.text_is)
    (begins_digit (48 + a.number / per_second unit / 3_600 / 10)
    ((48 + a.number / per_second unit / 3_600 % 10) ∷ 58
    ∷ (two_digits (a.number / per_second unit / 60 % 60) ++ 58 ∷ two_digits (a.number / per_second unit % 60)
    ++ fraction_text unit (a.number % per_second unit) ++ []))
    (omega arith) (omega (arith, first)))
number_begins (t.Timestamp unit timezone) n z text h e =
    let a = timestamp_of unit timezone z text e in
    subst (λ (t : List ℕ). begins_number t ≡ true) (sym a.text_is) (day_begins a.day a.front _ a.front_is)
number_begins (t.Int bits signed) n z text h e =
    subst (λ (t : List ℕ). begins_number t ≡ true) (same_Some _ _ e) (signed_begins z (signed_fits (t.Int bits signed) n z h))
number_begins (t.Duration unit) n z text h e =
    subst (λ (t : List ℕ). begins_number t ≡ true) (same_Some _ _ e) (signed_begins z (signed_fits (t.Duration unit) n z h))
number_begins _ n z text h e = absurd h

parts : (a b c d : Bool) → (a || b || c || d) ≡ false → (a ≡ false) × (b ≡ false) × (c ≡ false) × (d ≡ false)
parts true b c d e = absurd cc
parts false true c d e = absurd cc
parts false false true d e = absurd cc
parts false false false true e = absurd cc
parts false false false false e = (refl, refl, refl, refl)

-- the text of null is like no value
unlike : (d : Dialect) → (bytes_eq (null_text d) (codes "true") ≡ false) × (bytes_eq (null_text d) (codes "false") ≡ false)
    × (begins_number (null_text d) ≡ false) × (is_hexadecimal (null_text d) ≡ false)
unlike d = parts _ _ _ _ d.allowed.other

no_number : (d : Dialect) (text : List ℕ) → begins_number text ≡ true → text ≡ null_text d → ⊥
no_number d text number e = let no = (unlike d).2 in let yes = rw e at number in cc

no_word : (d : Dialect) (truth : Bool) → bool_text truth ≡ null_text d → ⊥
no_word d true e = let no = (unlike d).0 in let yes = (bytes_eq-Decides (null_text d) (codes "true")).1 (sym e) in cc
no_word d false e = let no = (unlike d).1 in let yes = (bytes_eq-Decides (null_text d) (codes "false")).1 (sym e) in cc

-- the digits of bytes are not the text of null, unless both are empty
pub digits_apart : (d : Dialect) (bytes : List ℕ) → IsBytes bytes → (bytes ≡ [] → null_text d ≢ []) → encode_lower bytes ≢ null_text d
unfolding encode_with
digits_apart d [] small some e = some refl (sym e)
digits_apart d (b ∷ bs) small some e =
    let no = (unlike d).3 in
    let yes = subst (λ (t : List ℕ). is_hexadecimal t ≡ true) e (in_pairs b bs small) in cc

unless : (same : Bool) (null text t : List ℕ) → Decides same (text ≡ null) → (if same then None else Some text) ≡ Some t
    → (text ≡ t) × (t ≢ null)
unless true null text t dec e = absurd cc
unless false null text t dec e = let is = same_Some _ _ e in (is, λ n. let x = dec.1 (is ∙ n) in cc)

-- a text that is not that of null
pub other_than_null : (d : Dialect) (text t : List ℕ) → unless_null d text ≡ Some t → (text ≡ t) × (t ≢ null_text d)
other_than_null d text t e = unless (bytes_eq text (null_text d)) _ text t (bytes_eq-Decides text (null_text d)) e

kept : (same : Bool) (null text : List ℕ) → Decides same (text ≡ null) → text ≢ null → (if same then None else Some text) ≡ Some text
kept true null text dec other = absurd (other (dec.0 refl))
kept false null text dec other = refl

pub kept_text : (d : Dialect) (text : List ℕ) → text ≢ null_text d → unless_null d text ≡ Some text
kept_text d text other = kept (bytes_eq text (null_text d)) _ text (bytes_eq-Decides text (null_text d)) other

-- the text of null is that of no text
pub no_text : (d : Dialect) (text : List ℕ) → text ≡ null_text d → unless_null d text ≡ None
no_text d text e = rw ((bytes_eq-Decides text (null_text d)).1 e) refl

not_backslashed : (chars : List ℕ) → with_backslash chars ≡ standard_null → ⊥
not_backslashed [] e = cc
not_backslashed (c ∷ cs) e = elim (cases_Bool (c == 92)) [
  | inl is ↦ let f = rw is at e in let h : c ≡ 78 = cc in let g : c ≡ 92 = (Decides-eqb c 92).0 is in omega arith
  | inr other ↦
      let f = rw other at e in
      let h : c ≡ 92 = cc in
      let g : (c == 92) ≡ true = (Decides-eqb c 92).1 h in cc
]

no_chars : (d : Dialect) (chars : List ℕ) → chars_text d chars ≡ Some (null_text d) → ⊥
no_chars d chars e = elim (cases_Bool (bytes_eq (null_text d) standard_null)) [
  | inl is ↦
      let f = rw is at e in
      not_backslashed chars (same_Some _ _ f ∙ (bytes_eq-Decides (null_text d) standard_null).0 is)
  | inr other ↦ let f = rw other at e in (other_than_null d chars (null_text d) f).1 refl
]

-- a value of a field's own that the text of null stands for is null
pub null_only : (d : Dialect) (kind : DataType) (nullable : Bool) (n : ℕ) (w : Value-F Value) → FitsOwnType kind nullable n w
    → StandsFor d kind (null_text d) w → w ≡ Value-F.Null
null_only d kind nullable n Value-F.Null h s = refl
null_only d kind nullable n (Value-F.Bool truth) h s = absurd (no_word d truth (same_Some _ _ s))
null_only d kind nullable n (Value-F.Int z) h s = absurd (no_number d _ (number_begins kind n z (null_text d) h s) refl)
null_only d kind nullable n (Value-F.UInt m) h s =
    absurd (no_number d (decimal m) (decimal_begins m (unsigned_fits kind n m h)) (same_Some _ _ s))
null_only d kind nullable n (Value-F.Bytes bytes) h s = absurd (s.1 refl)
null_only d kind nullable n (Value-F.Text chars) h s = absurd (no_chars d chars s.1)
null_only d kind nullable n (Value-F.List vs) h s = absurd cc
null_only d kind nullable n (Value-F.Struct vs) h s = absurd cc

-- no bytes have the empty text
pub no_digits : (bytes null : List ℕ) → length bytes ≡ 0 → length null ≡ 0 → encode_lower bytes ≡ null
unfolding encode_with
no_digits [] [] none empty = refl
no_digits [] (n ∷ ns) none empty = absurd (omega (arith, empty))
no_digits (b ∷ bs) null none empty = absurd (omega (arith, none))
