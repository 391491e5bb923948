-- Texts whose bytes stand for themselves.
use Rattle.std.proofs.Common.{◌≡◌, ◌<◌, ◌/◌, ◌%◌, refl, ℕ, suc, slice_index, true, false, List, [], ◌∷◌, arith}
use Rattle.std.proofs.lemmas.Bool.{agree_below_at, or_parts}
use Rattle.hex.specs.Hex.{IsBytes, encode_with, encode_lower, lower_digits}
use Rattle.json.specs.Print.{escape, escape_byte}
use Rattle.ipc_text_temporal.specs.ShortTexts.{IsPlain, is_plain_byte}
use Rattle.std.proofs.lemmas.Bool.Decides.{nat_tests}
use Rattle.job_print.specs.Escaped.{is_escaped, has_escaped}

own_byte : (x : ℕ) → is_escaped x ≡ false → escape_byte x ≡ x ∷ []
unfolding escape_byte
own_byte x h = grind arith

-- a text of JSON has each of its bytes as it stands, where none has another form
pub own_bytes : (xs : List ℕ) → has_escaped xs ≡ false → escape xs ≡ xs
own_bytes [] h = refl
own_bytes (x ∷ xs) h =
    let both = or_parts (is_escaped x) (has_escaped xs) h in
    rw (own_byte x both.0, own_bytes xs both.1) refl

digit_own : (d : ℕ) → d < 16 → is_escaped (slice_index lower_digits d) ≡ false
digit_own d small = agree_below_at (λ k. is_escaped (slice_index lower_digits k)) (λ k. false) 16 d refl small

encoded_own : (bs : List ℕ) → IsBytes bs → has_escaped (encode_with lower_digits bs) ≡ false
unfolding encode_with
encoded_own [] bytes = refl
encoded_own (b ∷ bs) bytes =
    let small = bytes 0 in
    rw (digit_own (b / 16) (omega arith), digit_own (b % 16) (omega arith)) (encoded_own bs (λ k. bytes (suc k)))

-- hexadecimal digits of bytes stand in a text of JSON as they are
pub own_digits : (bs : List ℕ) → IsBytes bs → escape (encode_lower bs) ≡ encode_lower bs
own_digits bs bytes = own_bytes (encode_lower bs) (encoded_own bs bytes)

letter_own : (b : ℕ) → is_plain_byte b ≡ true → is_escaped b ≡ false
letter_own b plain = grind (arith, nat_tests)

short_own : (bs : List ℕ) → IsPlain bs → has_escaped bs ≡ false
short_own [] plain = refl
short_own (b ∷ bs) plain = rw (letter_own b plain.0, short_own bs plain.1) refl

-- the texts of dates and times stand in a text of JSON as they are
pub own_moment : (bs : List ℕ) → IsPlain bs → escape bs ≡ bs
own_moment bs plain = own_bytes bs (short_own bs plain)
