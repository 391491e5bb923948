-- Hexadecimal digits, two for each byte.
use Rattle.std.proofs.Common.{◌≡◌, ◌/◌, ◌%◌, ◌+◌, ◌<◌, ◌≤◌, ◌==◌, ◌∙◌, ap, sym, append-nil, ℕ, true, List, [], ◌∷◌, ◌++◌, length, drop}
use Rattle.std.proofs.Common.{drop-cons, get_or, add-one, slice_index, refl, take, zero, suc, arith, append_assoc}
use Rattle.std.specs.Char.{digit_char}
use Rattle.std.proofs.lemmas.Bool.{agree_below_at, eqb-true}
use Rattle.std.proofs.lemmas.List.{drop_all}
use Rattle.hex.specs.Hex.{encode_with, encode_lower, lower_digits}

-- the digit of a number below 16
pub digit_is : (n : ℕ) → n < 16 → digit_char n ≡ slice_index lower_digits n
digit_is n small = eqb-true _ _ (agree_below_at (λ k. digit_char k == slice_index lower_digits k) (λ k. true) 16 n refl small)

-- the two digits of a byte
pub digits_are : (b : ℕ) → b < 256 → digit_char (b / 16) ∷ digit_char (b % 16) ∷ [] ≡ encode_lower (b ∷ [])
unfolding encode_with
digits_are b small = rw (digit_is (b / 16) (omega (arith, small)), digit_is (b % 16) (omega arith)) refl

-- the digits of some bytes and of those after them are those of all
digits_apart : (bs : List ℕ) (n : ℕ) → encode_lower (take n bs) ++ encode_lower (drop n bs) ≡ encode_lower bs
unfolding encode_with
digits_apart [] zero = refl
digits_apart [] (suc n) = refl
digits_apart (b ∷ bs) zero = refl
digits_apart (b ∷ bs) (suc n) =
    ap (λ (t : List ℕ). slice_index lower_digits (b / 16) ∷ slice_index lower_digits (b % 16) ∷ t) (digits_apart bs n)

-- where the digits of the first sixteen were written, those of the others lead to the same text
pub sixteen_written : (bs first more out new whole : List ℕ) → first ≡ take 16 bs → more ≡ drop 16 bs → new ≡ out ++ encode_lower first
    → out ++ encode_lower bs ≡ whole → new ++ encode_lower more ≡ whole
sixteen_written bs first more out new whole front behind put is =
    rw (put, front, behind) (append_assoc out (encode_lower (take 16 bs)) (encode_lower (drop 16 bs))
    ∙ (ap (λ (t : List ℕ). out ++ t) (digits_apart bs 16) ∙ is))

-- the digits of bytes from a place on: those of its byte, and the rest
pub digits_from : (bs : List ℕ) (i b : ℕ) → i < length bs → b ≡ get_or bs i 0
    → encode_lower (drop i bs) ≡ encode_lower (b ∷ []) ++ encode_lower (drop (i + 1) bs)
unfolding encode_with
digits_from bs i b inside is = rw (drop-cons bs i 0) (rw (← is, add-one) refl)

-- a byte has two digits
pub two_digits : (b : ℕ) → length (encode_lower (b ∷ [])) ≡ 2
unfolding encode_with
two_digits b = refl

no_digits : encode_lower [] ≡ []
unfolding encode_with
no_digits = refl

-- where no byte is left, all digits were written
pub all_digits : (bs front whole : List ℕ) (i : ℕ) → length bs ≤ i → front ++ encode_lower (drop i bs) ≡ whole → front ≡ whole
all_digits bs front whole i over is =
    sym (append-nil front) ∙ (ap (λ (t : List ℕ). front ++ t) (sym (ap encode_lower (drop_all i bs over) ∙ no_digits)) ∙ is)
