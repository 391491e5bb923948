-- Numbers, dates and times are fields of CSV as they stand.
use Rattle.std.proofs.Common.{◌≡◌, ◌<◌, ◌^◌, ℕ, suc, ℤ, pos, negsuc, true, false, List, [], ◌∷◌, FitsSigned, w64, refl, arith}
use Rattle.std.specs.Prelude.{decimal}
use Rattle.std.specs.Fmt.{signed_decimal}
use Rattle.std.specs.Int.{IsInRange}
use Rattle.std.specs.Str.Parse.{AllDigits}
use Rattle.std.proofs.lemmas.Bool.Decides.{nat_tests}
use Rattle.std.proofs.lemmas.Fmt.{decimal_is_IsNumeral}
use Rattle.std.proofs.lemmas.Str.Parse.{digit_from_value}
use Rattle.ipc_text_temporal.specs.ShortTexts.{IsPlain, is_plain_byte}
use Rattle.csv.specs.Writing.{needs_quotes, field_text}
use Rattle.ipc_text_csv.specs.Dialects.{is_delimiter, writer}
use Rattle.ipc_text_csv.proofs.PlainDigits.{plain_byte}

digit_plain : (b : ℕ) → IsInRange 48 57 b → is_plain_byte b ≡ true
digit_plain b digit = grind (arith, nat_tests)

module _ (c : ℕ) (apart : is_delimiter c ≡ true) where
  digits_plain : (ds : List ℕ) → AllDigits 10 ds → needs_quotes (writer c) ds ≡ false
  digits_plain [] all = refl
  digits_plain (d ∷ ds) all =
      rw (plain_byte c d apart (digit_plain d (digit_from_value d all.0)), digits_plain ds all.1) refl

  decimal_plain : (n : ℕ) → n < 2 ^ 64 → needs_quotes (writer c) (decimal n) ≡ false
  decimal_plain n fits = digits_plain (decimal n) (decimal_is_IsNumeral n fits).0.1

  -- an unsigned number
  pub unsigned_as_it_stands : (n : ℕ) → n < 2 ^ 64 → field_text (writer c) (decimal n) ≡ decimal n
  unsigned_as_it_stands n fits = rw (decimal_plain n fits) refl

  -- a signed number
  pub signed_as_it_stands : (z : ℤ) → FitsSigned w64 z → field_text (writer c) (signed_decimal z) ≡ signed_decimal z
  signed_as_it_stands (pos n) fits = let small = fits.sfits in unsigned_as_it_stands n (omega (arith, small))
  signed_as_it_stands (negsuc n) fits =
      let small = fits.sfits in rw (plain_byte c 45 apart refl, decimal_plain (suc n) (omega (arith, small))) refl

  letters_plain : (bs : List ℕ) → IsPlain bs → needs_quotes (writer c) bs ≡ false
  letters_plain [] plain = refl
  letters_plain (b ∷ bs) plain = rw (plain_byte c b apart plain.0, letters_plain bs plain.1) refl

  -- the text of a date or a time
  pub moment_as_it_stands : (bs : List ℕ) → IsPlain bs → field_text (writer c) bs ≡ bs
  moment_as_it_stands bs plain = rw (letters_plain bs plain) refl
