-- The front of a text after a write.
use Rattle.std.proofs.Common.{◌≡◌, ℕ, ◌+◌, ◌-◌, ◌*◌, ◌/◌, ◌%◌, ◌^◌, ◌<◌, ◌≤◌, List, ◌++◌, length, take, drop, ap, ◌∙◌, refl, arith}
use Rattle.std.proofs.Common.{append_assoc}
use Rattle.std.proofs.Math.Seq.{take-append-add}
use Rattle.std.proofs.lemmas.List.{length-take-le, take-append-le}
use Rattle.std.specs.Fmt.{decimal}
use Rattle.std.specs.Int.{w64, to_le_bytes}
use Rattle.job_print.specs.Digits.{last_digits}
use Rattle.job_print.proofs.numbers.Decimals.{decimal_padded, behind_eight}
use Rattle.job_print.proofs.numbers.Shifts.{shifted}

-- up to inside the part that was written
pub front_of : (s bytes rest : List ℕ) (at j : ℕ) → at ≤ length s → j ≤ length bytes
    → take (at + j) (take at s ++ bytes ++ rest) ≡ take at s ++ take j bytes
front_of s bytes rest at j inside short =
    let count : at + j ≡ length (take at s) + j = omega (arith, length-take-le at s inside) in
    ap (take (at + j)) (append_assoc (take at s) bytes rest) ∙ (ap (λ (n : ℕ). take n (take at s ++ (bytes ++ rest))) count
    ∙ (take-append-add (take at s) (bytes ++ rest) j ∙ ap (λ (x : List ℕ). take at s ++ x) (take-append-le j bytes rest short)))

-- the digits of a number below 10^8, of which the zeros in front were shifted out
pub first_front : (s new rest bytes : List ℕ) (at z x n : ℕ) → at ≤ length s → n < 100000000
    → new ≡ take at s ++ bytes ++ rest → bytes ≡ to_le_bytes w64 (x / 2 ^ (8 * z)) → to_le_bytes w64 x ≡ last_digits 8 n
    → z + length (decimal n) ≡ 8 → take (at + (8 - z)) new ≡ take at s ++ decimal n
first_front s new rest bytes at z x n inside small written shown all count =
    let size : length bytes ≡ 8 = ap length shown in
    let zeros : z ≡ 8 - length (decimal n) = omega (arith, count) in
    ap (take (at + (8 - z))) written ∙ (front_of s bytes rest at (8 - z) inside (omega (arith, size))
    ∙ ap (λ (t : List ℕ). take at s ++ t) (ap (take (8 - z)) shown ∙ (shifted x z (omega (arith, count)) ∙ (ap (drop z) all
    ∙ (ap (λ (k : ℕ). drop k (last_digits 8 n)) zeros ∙ decimal_padded 7 n small (omega (arith, small)))))))

-- a front that is known, and the eight digits after it
pub joined : (whole front before : List ℕ) (n : ℕ) → 100000000 ≤ n → n < 2 ^ 64
    → front ≡ before ++ decimal (n / 100000000) → whole ≡ front ++ last_digits 8 (n % 100000000) → whole ≡ before ++ decimal n
joined whole front before n large s first all =
    all ∙ (ap (λ (t : List ℕ). t ++ last_digits 8 (n % 100000000)) first
    ∙ (append_assoc before (decimal (n / 100000000)) (last_digits 8 (n % 100000000))
    ∙ ap (λ (t : List ℕ). before ++ t) (behind_eight n (n % 100000000) large s refl)))
