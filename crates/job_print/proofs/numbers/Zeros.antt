-- How many zeros stand in front of eight digits, by the lowest bit that is set.
use Rattle.std.proofs.Common.{◌≡◌, ◌∙◌, ℕ, zero, suc, ◌+◌, ◌-◌, ◌*◌, ◌/◌, ◌%◌, ◌^◌, ◌<◌, length, refl, sym, ap, arith, inl, inr}
use Rattle.std.proofs.Math.Nat.{mul_assoc}
use Rattle.std.proofs.lemmas.Bool.{cases_lt}
use Rattle.std.proofs.lemmas.Nat.{from_le_bytes-to_le_bytes_8}
use Rattle.std.specs.Fmt.{decimal}
use Rattle.std.specs.Int.{w64, to_le_bytes, from_le_bytes, trailing_zeros}
use Rattle.std.specs.Int.Count.{count_trailing_zeros}
use Rattle.job_print.specs.Digits.{last_digits}
use Rattle.job_print.proofs.numbers.Decimals.{seven, fewer}
use lib.Count.{under}

abbrev count : ℕ → ℕ → ℕ
count k n = count_trailing_zeros k n

even : (k n : ℕ) → n % 2 ≡ 0 → count (suc k) n ≡ suc (count k (n / 2))
unfolding count_trailing_zeros
even k n e = ap (λ d. under d (count k (n / 2))) e

odd : (k n : ℕ) → n % 2 ≡ 1 → count (suc k) n ≡ 0
unfolding count_trailing_zeros
odd k n e = ap (λ d. under d (count k (n / 2))) e

-- a bit that is set, or one more that is not
below : (j k n : ℕ) → (n % 2 ≡ 0 → count k (n / 2) < j) → count (suc k) n < suc j
below j k n h = elim (cases_lt (n % 2) 1) [
  | inl low ↦ let e : n % 2 ≡ 0 = omega (arith, low) in omega (arith, even k n e, h e)
  | inr high ↦ omega (arith, odd k n (omega (arith, high)))
]

-- a byte without a bit
clear_byte : (k n : ℕ) → n % 256 ≡ 0 → count (suc (suc (suc (suc (suc (suc (suc (suc k)))))))) n ≡ 8 + count k (n / 256)
clear_byte k n h =
    let a = even (suc (suc (suc (suc (suc (suc (suc k))))))) n (omega (arith, h)) in
    let b = even (suc (suc (suc (suc (suc (suc k)))))) (n / 2) (omega (arith, h)) in
    let c = even (suc (suc (suc (suc (suc k))))) (n / 2 / 2) (omega (arith, h)) in
    let d = even (suc (suc (suc (suc k)))) (n / 2 / 2 / 2) (omega (arith, h)) in
    let e = even (suc (suc (suc k))) (n / 2 / 2 / 2 / 2) (omega (arith, h)) in
    let f = even (suc (suc k)) (n / 2 / 2 / 2 / 2 / 2) (omega (arith, h)) in
    let g = even (suc k) (n / 2 / 2 / 2 / 2 / 2 / 2) (omega (arith, h)) in
    let i = even k (n / 2 / 2 / 2 / 2 / 2 / 2 / 2) (omega (arith, h)) in
    let all : n / 2 / 2 / 2 / 2 / 2 / 2 / 2 / 2 ≡ n / 256 = omega arith in
    omega (arith, a, b, c, d, e, f, g, i, ap (count k) all)

-- a byte with a bit
set_byte : (k n : ℕ) → 0 < n % 256 → count (suc (suc (suc (suc (suc (suc (suc (suc k)))))))) n < 8
set_byte k n h =
    below 7 (suc (suc (suc (suc (suc (suc (suc k))))))) n λ a.
    below 6 (suc (suc (suc (suc (suc (suc k)))))) (n / 2) λ b.
    below 5 (suc (suc (suc (suc (suc k))))) (n / 2 / 2) λ c.
    below 4 (suc (suc (suc (suc k)))) (n / 2 / 2 / 2) λ d.
    below 3 (suc (suc (suc k))) (n / 2 / 2 / 2 / 2) λ e.
    below 2 (suc (suc k)) (n / 2 / 2 / 2 / 2 / 2) λ f.
    below 1 (suc k) (n / 2 / 2 / 2 / 2 / 2 / 2) λ g.
    below 0 k (n / 2 / 2 / 2 / 2 / 2 / 2 / 2) λ i.
    omega (arith, h, a, b, c, d, e, f, g, i)

-- the first byte with a bit
first_byte : (j k n q : ℕ) → n ≡ 256 ^ j * q → 0 < q % 256 → count (8 * j + 8 + k) n / 8 ≡ j
first_byte zero k n q e h =
    let same : n ≡ q = omega (arith, e) in
    let bits : 8 * 0 + 8 + k ≡ (suc (suc (suc (suc (suc (suc (suc (suc k)))))))) = omega arith in
    let s = set_byte k n (omega (arith, h, same)) in
    omega (arith, ap (λ b. count b n) bits, s)
first_byte (suc j) k n q e h =
    let power : 256 ^ suc j ≡ 256 * 256 ^ j = omega arith in
    let whole : n ≡ 256 * (256 ^ j * q) = e ∙ (ap (λ (m : ℕ). m * q) power ∙ mul_assoc 256 (256 ^ j) q) in
    let front : n / 256 ≡ 256 ^ j * q = omega (arith, whole) in
    let bits : 8 * suc j + 8 + k ≡ (suc (suc (suc (suc (suc (suc (suc (suc (8 * j + 8 + k))))))))) = omega arith in
    let c = clear_byte (8 * j + 8 + k) n (omega (arith, whole)) in
    let r = first_byte j k (n / 256) q front h in
    omega (arith, ap (λ b. count b n) bits, c, r)

-- what is counted: the digits as numbers, the first in the lowest byte, and one more in the last
abbrev pub marked : ℕ → ℕ
marked x = x - 3400270702189752368

-- as many zeros as there are clear bytes
pub zeros_are : (n x : ℕ) → x < 2 ^ 64 → n < 100000000 → to_le_bytes w64 x ≡ last_digits 8 n
    → trailing_zeros w64 (marked x) / 8 + length (decimal n) ≡ 8
zeros_are n x s top e = elim (cases_lt n 10) [
  | inl a ↦ by_byte 7 0 (n % 10 + 1) refl (omega (arith, is, a)) (omega (arith, a)) (seven n a)
  | inr a ↦ elim (cases_lt n 100) [
    | inl b ↦ by_byte 6 8 ((n / 10 % 10) + (n % 10 + 1) * 256) refl (omega (arith, is, a, b)) (omega (arith, a, b))
        (fewer 6 1 n refl a b (omega (arith, top)))
    | inr b ↦ elim (cases_lt n 1000) [
      | inl c ↦ by_byte 5 16 ((n / 100 % 10) + (n / 10 % 10) * 256 + (n % 10 + 1) * 65536)
          refl (omega (arith, is, b, c)) (omega (arith, b, c)) (fewer 5 2 n refl b c (omega (arith, top)))
      | inr c ↦ elim (cases_lt n 10000) [
        | inl d ↦ by_byte 4 24 ((n / 1000 % 10) + (n / 100 % 10) * 256 + (n / 10 % 10) * 65536 + (n % 10 + 1) * 16777216)
            refl (omega (arith, is, c, d)) (omega (arith, c, d)) (fewer 4 3 n refl c d (omega (arith, top)))
        | inr d ↦ elim (cases_lt n 100000) [
          | inl f ↦ by_byte 3 32 ((n / 10000 % 10) + (n / 1000 % 10) * 256 + (n / 100 % 10) * 65536 + (n / 10 % 10) * 16777216
              + (n % 10 + 1) * 4294967296) refl (omega (arith, is, d, f)) (omega (arith, d, f))
              (fewer 3 4 n refl d f (omega (arith, top)))
          | inr f ↦ elim (cases_lt n 1000000) [
            | inl g ↦ by_byte 2 40 ((n / 100000 % 10) + (n / 10000 % 10) * 256 + (n / 1000 % 10) * 65536 + (n / 100 % 10) * 16777216
                + (n / 10 % 10) * 4294967296 + (n % 10 + 1) * 1099511627776) refl (omega (arith, is, f, g)) (omega (arith, f, g))
                (fewer 2 5 n refl f g (omega (arith, top)))
            | inr g ↦ elim (cases_lt n 10000000) [
              | inl h ↦ by_byte 1 48 ((n / 1000000 % 10) + (n / 100000 % 10) * 256 + (n / 10000 % 10) * 65536
                  + (n / 1000 % 10) * 16777216 + (n / 100 % 10) * 4294967296 + (n / 10 % 10) * 1099511627776
                  + (n % 10 + 1) * 281474976710656) refl (omega (arith, is, g, h)) (omega (arith, g, h))
                  (fewer 1 6 n refl g h (omega (arith, top)))
              | inr h ↦ by_byte 0 56 ((n / 10000000 % 10) + (n / 1000000 % 10) * 256 + (n / 100000 % 10) * 65536
                  + (n / 10000 % 10) * 16777216 + (n / 1000 % 10) * 4294967296 + (n / 100 % 10) * 1099511627776
                  + (n / 10 % 10) * 281474976710656 + (n % 10 + 1) * 72057594037927936)
                  refl (omega (arith, is, h, top)) (omega (arith, h, top)) (fewer 0 7 n refl h top (omega (arith, top)))
            ]
          ]
        ]
      ]
    ]
  ]
]
  where
    is : x ≡ from_le_bytes w64 (last_digits 8 n)
    is = sym (from_le_bytes-to_le_bytes_8 x s) ∙ ap (from_le_bytes w64) e

    by_byte : (j k q : ℕ) → 8 * j + 8 + k ≡ 64 → marked x ≡ 256 ^ j * q → 0 < q % 256 → j + length (decimal n) ≡ 8
        → trailing_zeros w64 (marked x) / 8 + length (decimal n) ≡ 8
    by_byte j k q bits front some long =
        omega (arith, long, ap (λ b. count b (marked x)) bits, first_byte j k (marked x) q front some)
