-- A number as parts side by side, of which each is masked, and a mask's part is below that of the number.
use Rattle.std.proofs.Common.{◌≡◌, ◌∙◌, ℕ, ◌+◌, ◌*◌, ◌/◌, ◌%◌, ◌^◌, ◌<◌, ap, sym, arith, bit_and}
use Rattle.std.proofs.lemmas.Nat.{and_block, and_mask, shr_split}

-- each half masked
masked_halves : (y : ℕ) → bit_and y 545460846719 ≡ y / 4294967296 % 128 * 4294967296 + y % 128
masked_halves y =
    let parts : bit_and y 545460846719 ≡ bit_and (y / 2 ^ 32) 127 * 2 ^ 32 + bit_and (y % 2 ^ 32) 127 =
    ap (λ (n : ℕ). bit_and n 545460846719) (sym (shr_split y 32))
    ∙ and_block 32 (y / 2 ^ 32) 127 (y % 2 ^ 32) 127 (omega arith) (omega arith) in
    let high : bit_and (y / 2 ^ 32) 127 ≡ y / 2 ^ 32 % 2 ^ 7 = and_mask (y / 2 ^ 32) 7 in
    let low : bit_and (y % 2 ^ 32) 127 ≡ y % 2 ^ 32 % 2 ^ 7 = and_mask (y % 2 ^ 32) 7 in
    omega (arith, parts, high, low)

-- the tens of each half
pub hundreds_of_halves : (x h l : ℕ) → h < 10000 → l < 10000 → x ≡ h * 4294967296 + l
    → bit_and (x * 5243 / 524288) 545460846719 ≡ h / 100 * 4294967296 + l / 100
hundreds_of_halves x h l high low is = omega (arith, masked_halves (x * 5243 / 524288), high, low, is)

-- the same of two parts of 16 bits
masked_two : (y : ℕ) → bit_and y 983055 ≡ y / 65536 % 16 * 65536 + y % 16
masked_two y =
    let parts : bit_and y 983055 ≡ bit_and (y / 2 ^ 16) 15 * 2 ^ 16 + bit_and (y % 2 ^ 16) 15 =
    ap (λ (n : ℕ). bit_and n 983055) (sym (shr_split y 16)) ∙ and_block 16 (y / 2 ^ 16) 15 (y % 2 ^ 16) 15 (omega arith) (omega arith) in
    let high : bit_and (y / 2 ^ 16) 15 ≡ y / 2 ^ 16 % 2 ^ 4 = and_mask (y / 2 ^ 16) 4 in
    let low : bit_and (y % 2 ^ 16) 15 ≡ y % 2 ^ 16 % 2 ^ 4 = and_mask (y % 2 ^ 16) 4 in
    omega (arith, parts, high, low)

-- each quarter masked
masked_quarters : (y : ℕ) → bit_and y 4222189076152335
    ≡ y / 281474976710656 % 16 * 281474976710656 + y / 4294967296 % 16 * 4294967296 + y / 65536 % 16 * 65536 + y % 16
masked_quarters y =
    let parts : bit_and y 4222189076152335 ≡ bit_and (y / 2 ^ 32) 983055 * 2 ^ 32 + bit_and (y % 2 ^ 32) 983055 =
    ap (λ (n : ℕ). bit_and n 4222189076152335) (sym (shr_split y 32))
    ∙ and_block 32 (y / 2 ^ 32) 983055 (y % 2 ^ 32) 983055 (omega arith) (omega arith) in
    omega (arith, parts, masked_two (y / 2 ^ 32), masked_two (y % 2 ^ 32))

-- the tens of each quarter
pub tens_of_quarters : (x a b c d : ℕ) → a < 100 → b < 100 → c < 100 → d < 100
    → x ≡ a * 281474976710656 + b * 4294967296 + c * 65536 + d
    → bit_and (x * 103 / 1024) 4222189076152335 ≡ a / 10 * 281474976710656 + b / 10 * 4294967296 + c / 10 * 65536 + d / 10
tens_of_quarters x a b c d first second third fourth is =
    omega (arith, masked_quarters (x * 103 / 1024), first, second, third, fourth, is)
