-- ASCII is UTF-8.
use Rattle.std.proofs.Common.{◌≡◌, ◌<◌, nat_lt, ℕ, zero, suc, true, List, [], ◌∷◌, refl}
use Rattle.std.proofs.Common.{arith}
use Rattle.std.specs.List.{list_all}
use Rattle.std.specs.Str.{IsAscii, IsUtf8}
use Rattle.std.proofs.lemmas.Bool.{and_parts}
use Rattle.std.proofs.lemmas.Bool.Decides.{nat_tests}
use Rattle.std.proofs.lemmas.Str.{IsUtf8-from_ascii}
use Rattle.ipc_text_temporal.specs.ShortTexts.{IsPlain, is_plain_byte}
use Rattle.hex.specs.Hex.{encode_lower, lower_digits}
use Rattle.hex.proofs.HexLemmas.{IsAscii-encode_with}

-- bytes below 128 are ASCII
pub all_small : (bs : List ℕ) → list_all (λ b. nat_lt b 128) bs ≡ true → IsAscii bs
all_small [] h i = omega arith
all_small (b ∷ bs) h zero =
    let e = (and_parts (nat_lt b 128) (list_all (λ c. nat_lt c 128) bs) h).0 in grind (arith, nat_tests)
all_small (b ∷ bs) h (suc i) = all_small bs (and_parts (nat_lt b 128) (list_all (λ c. nat_lt c 128) bs) h).1 i

-- hexadecimal digits are UTF-8
pub digits_are_utf8 : (bs : List ℕ) → IsUtf8 (encode_lower bs)
digits_are_utf8 bs = IsUtf8-from_ascii (encode_lower bs) (IsAscii-encode_with lower_digits bs (all_small lower_digits refl))

small_byte : (b : ℕ) → is_plain_byte b ≡ true → b < 128
small_byte b h = grind (arith, nat_tests)

plain_is_ascii : (bs : List ℕ) → IsPlain bs → IsAscii bs
plain_is_ascii [] h i = omega arith
plain_is_ascii (b ∷ bs) h zero = small_byte b h.0
plain_is_ascii (b ∷ bs) h (suc i) = plain_is_ascii bs h.1 i

-- what is plain is UTF-8
pub plain_is_utf8 : (bs : List ℕ) → IsPlain bs → IsUtf8 bs
plain_is_utf8 bs h = IsUtf8-from_ascii bs (plain_is_ascii bs h)
