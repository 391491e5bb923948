-- Hexadecimal digits need no quotes, and few are the text of null.
use Rattle.std.proofs.Common.{◌≡◌, ◌/◌, ◌%◌, ◌==◌, ◌<◌, ℕ, zero, suc, true, false, List, [], ◌∷◌, length}
use Rattle.std.proofs.Common.{slice_index, refl, arith}
use Rattle.std.specs.List.{list_all}
use Rattle.std.proofs.lemmas.Bool.{or_parts, and_parts, agree_below_at}
use Rattle.std.proofs.lemmas.Bool.Decides.{nat_tests}
use Rattle.csv.specs.Writing.{needs_quotes, needs_byte, field_text}
use Rattle.hex.specs.Hex.{IsBytes, encode_with, encode_lower, lower_digits}
use Rattle.std.specs.Char.{is_ascii_hexdigit}
use Rattle.hex.proofs.HexLemmas.{length-encode_with}
use Rattle.ipc_text_temporal.specs.ShortTexts.{is_plain_byte}
use Rattle.ipc_text_csv.specs.Dialects.{is_delimiter, is_hexadecimal, writer}

-- a byte of a value needs no quotes in any dialect
pub plain_byte : (c b : ℕ) → is_delimiter c ≡ true → is_plain_byte b ≡ true → needs_byte (writer c) b ≡ false
plain_byte c b apart plain = grind (arith, nat_tests)

pub zero_byte : (c : ℕ) → is_delimiter c ≡ true → needs_byte (writer c) 0 ≡ false
zero_byte c apart = grind (arith, nat_tests)

-- bytes of values need no quotes
pub all_plain : (c : ℕ) (xs : List ℕ) → is_delimiter c ≡ true → list_all is_plain_byte xs ≡ true → needs_quotes (writer c) xs ≡ false
all_plain c [] apart plain = refl
all_plain c (x ∷ xs) apart plain =
    let both = and_parts (is_plain_byte x) (list_all is_plain_byte xs) plain in
    rw (plain_byte c x apart both.0, all_plain c xs apart both.1) refl

module _ (c : ℕ) (apart : is_delimiter c ≡ true) where
  plain_at : (t : List ℕ) → needs_quotes (writer c) t ≡ false → (i : ℕ) → needs_byte (writer c) (slice_index t i) ≡ false
  plain_at [] h i = zero_byte c apart
  plain_at (b ∷ bs) h zero = (or_parts (needs_byte (writer c) b) (needs_quotes (writer c) bs) h).0
  plain_at (b ∷ bs) h (suc i) = plain_at bs (or_parts (needs_byte (writer c) b) (needs_quotes (writer c) bs) h).1 i

  encoded_plain : (bs : List ℕ) → needs_quotes (writer c) (encode_with lower_digits bs) ≡ false
  unfolding encode_with
  encoded_plain [] = refl
  encoded_plain (b ∷ bs) =
      let plain = plain_at lower_digits (all_plain c lower_digits apart refl) in
      rw (plain (b / 16), plain (b % 16)) (encoded_plain bs)

  -- bytes as lower-case hexadecimal digits are a field of CSV as they stand
  pub digits_as_they_stand : (bs : List ℕ) → field_text (writer c) (encode_lower bs) ≡ encode_lower bs
  digits_as_they_stand bs = rw (encoded_plain bs) refl

digit_is : (d : ℕ) → d < 16 → is_ascii_hexdigit (slice_index lower_digits d) ≡ true
digit_is d small = agree_below_at (λ k. is_ascii_hexdigit (slice_index lower_digits k)) (λ k. true) 16 d refl small

all_digits : (bs : List ℕ) → IsBytes bs → list_all is_ascii_hexdigit (encode_with lower_digits bs) ≡ true
unfolding encode_with
all_digits [] bytes = refl
all_digits (b ∷ bs) bytes =
    let small = bytes 0 in
    rw (digit_is (b / 16) (omega arith), digit_is (b % 16) (omega arith)) (all_digits bs (λ k. bytes (suc k)))

pub in_pairs : (b : ℕ) (bs : List ℕ) → IsBytes (b ∷ bs) → is_hexadecimal (encode_lower (b ∷ bs)) ≡ true
in_pairs b bs bytes =
    let size = length-encode_with lower_digits (b ∷ bs) in
    let some : (length (encode_lower (b ∷ bs)) == 0) ≡ false = grind (arith, nat_tests, size) in
    let even : (length (encode_lower (b ∷ bs)) % 2 == 0) ≡ true = grind (arith, nat_tests, size) in
    rw (some, even, all_digits (b ∷ bs) bytes) refl
