-- Numbers that are indices of so many values, told by their bytes.
use Rattle.std.proofs.Common.{◌≡◌, ◌↔◌, ◌∙◌, refl, sym, ap, arith, ℕ, suc, ◌+◌, ◌-◌, ◌*◌, ◌/◌, ◌^◌, ◌<◌, ◌≤◌, min, List, length, take}
use Rattle.std.proofs.Common.{get_or, Bool, true, false, inl, inr}
use Rattle.std.specs.Prelude.{IsTrue, pos, negsuc}
use Rattle.std.specs.Int.{Width, w8, w16, w32, w64, cast_signed}
use Rattle.std.proofs.Math.Nat.{mul-le-mul_left}
use Rattle.std.proofs.lemmas.Bool.{cases_lt}
use Rattle.std.proofs.lemmas.Int.{ints, to_z_pos}
use Rattle.std.proofs.lemmas.List.{length-take-le}
use mir.Val.{bits, hbits, bool_byte}
use Rattle.std.proofs.Math.Facts.{to_z-neg}
use Rattle.std.proofs.lemmas.Nat.{pow_pos}
use Rattle.byteorder.specs.Endian.{little_from}
use Rattle.byteorder.specs.Numbers.{little_from-take, little_from-lt}
use Rattle.ipc_scalar.specs.Bytes.{num, number, number_of, IsWidth, IsBelow}

-- an unsigned number
unsigned_below : (x limit most high : ℕ) → x ≤ high → 0 < limit → most ≡ min (limit - 1) high → (x ≤ most) ↔ IsBelow limit (pos x)
unsigned_below x limit most high h some is = (λ l. (omega (arith, ints), omega (arith, ints)), λ l. let m = l.1 in omega (arith, ints))

-- a signed one, which is none where its sign bit is set
signed_below : (w : Width) (x limit most : ℕ) → 0 < limit → most ≡ min (limit - 1) (2 ^ hbits w - 1) → 2 ^ bits w ≡ 2 * 2 ^ hbits w → x <
    2 ^ bits w
    → (x ≤ most) ↔ IsBelow limit (cast_signed w x)
signed_below w x limit most some is whole fits =
    let half = pow_pos (hbits w) in
    elim (cases_lt x (2 ^ hbits w)) as (λ _. (x ≤ most) ↔ IsBelow limit (cast_signed w x)) [
      | inl l ↦ rw (to_z_pos w x l) (unsigned_below x limit most (2 ^ hbits w - 1) (omega (arith, l)) some is)
      | inr l ↦ let same : 2 ^ bits w - suc (2 ^ bits w - suc x) ≡ x = omega (arith, fits) in
          let negative : cast_signed w x ≡ negsuc (2 ^ bits w - suc x) =
          ap (cast_signed w) (sym same) ∙ to_z-neg w (2 ^ bits w - suc x) (omega (arith, whole, l, fits)) in
          rw negative (λ h. absurd (omega (arith, h, is, l, half)), λ h. absurd (let low = h.0 in omega (arith, ints)))
    ]

below_8 : (signed : Bool) (x limit most : ℕ) → 0 < limit → most ≡ min (limit - 1) (18446744073709551615 / 2 ^ (64 - 8 + bool_byte
    signed)) → x < 2 ^ 8
    → (x ≤ most) ↔ IsBelow limit (number_of 8 signed x)
below_8 true x limit most some is fits = signed_below w8 x limit most some is refl fits
below_8 false x limit most some is fits = unsigned_below x limit most 255 (omega arith) some is

below_16 : (signed : Bool) (x limit most : ℕ) → 0 < limit → most ≡ min (limit - 1) (18446744073709551615 / 2 ^ (64 - 16 + bool_byte
    signed)) → x < 2 ^ 16
    → (x ≤ most) ↔ IsBelow limit (number_of 16 signed x)
below_16 true x limit most some is fits = signed_below w16 x limit most some is refl fits
below_16 false x limit most some is fits = unsigned_below x limit most 65535 (omega arith) some is

below_32 : (signed : Bool) (x limit most : ℕ) → 0 < limit → most ≡ min (limit - 1) (18446744073709551615 / 2 ^ (64 - 32 + bool_byte
    signed)) → x < 2 ^ 32
    → (x ≤ most) ↔ IsBelow limit (number_of 32 signed x)
below_32 true x limit most some is fits = signed_below w32 x limit most some is refl fits
below_32 false x limit most some is fits = unsigned_below x limit most 4294967295 (omega arith) some is

below_64 : (signed : Bool) (x limit most : ℕ) → 0 < limit → most ≡ min (limit - 1) (18446744073709551615 / 2 ^ (64 - 64 + bool_byte
    signed)) → x < 2 ^ 64
    → (x ≤ most) ↔ IsBelow limit (number_of 64 signed x)
below_64 true x limit most some is fits = signed_below w64 x limit most some is refl fits
below_64 false x limit most some is fits = unsigned_below x limit most 18446744073709551615 (omega arith) some is

-- a number of so many bytes
num_lt : (w p : ℕ) (b : List ℕ) → ((k : ℕ) → get_or b k 0 < 256) → num b p w < 256 ^ w
unfolding num
num_lt w p b small = little_from-lt p w b small

-- numbers that are cut out
cut_numbers : (w n m : ℕ) (b : List ℕ) → n * w ≤ length b → 0 < w → ((i : ℕ) → w * i < length (take (n * w) b) → num (take (n * w) b) (w
    * i) w ≤ m)
    ↔ ((i : ℕ) → i < n → num b (w * i) w ≤ m)
unfolding num
cut_numbers w n m b inside some = (
  λ h i l. let r = room i l in let e = same i l in omega (arith, e, h i (omega (arith, size, r, some))),
  λ h i l. let t = below i (omega (arith, l, size)) in let e = same i t in omega (arith, e, h i t),
)
  where
    size : length (take (n * w) b) ≡ n * w
    size = length-take-le (n * w) b inside

    room : (i : ℕ) → i < n → w * i + w ≤ n * w
    room i l = let k = mul-le-mul_left w (let s : i + 1 ≤ n = omega arith in s) in omega (arith, k)

    below : (i : ℕ) → w * i < n * w → i < n
    below i h = elim (cases_lt i n) as (λ _. i < n) [
      | inl l ↦ l
      | inr l ↦ let k = mul-le-mul_left w l in absurd (omega (arith, h, k))
    ]

    same : (i : ℕ) → i < n → little_from (w * i) w (take (n * w) b) ≡ little_from (w * i) w b
    same i l = little_from-take (w * i) w (n * w) b (room i l)

-- what tells of numbers of 8 bits
pub tells_8 : (bits : ℕ) (signed : Bool) (n limit most count s : ℕ) (b : List ℕ) (r : Bool) → bits ≡ 8 → (limit ≡ 0 → ⊥) → n * bits / 8 ≤
    length b
    → count ≡ bits / 8 → s ≡ bool_byte signed → most ≡ min (limit - 1) (18446744073709551615 / 2 ^ (64 - bits + s))
    → ((k : ℕ) → get_or b k 0 < 256)
    → (IsTrue r ↔ ((i : ℕ) → 1 * i < length (take (n * count) b) → num (take (n * count) b) (1 * i) 1 ≤ most))
    → IsTrue r ↔ ((i : ℕ) → i < n → IsBelow limit (number bits signed b i))
tells_8 bits signed n limit most count s b r is some inside counts sign bound small h =
    let size : count ≡ 1 = rw is at counts in
    let room : n * 1 ≤ length b = let i = rw is at inside in omega (arith, i) in
    let cut = cut_numbers 1 n most b room (omega arith) in
    let report = rw size at h in
    let one : (i : ℕ) → (num b (1 * i) 1 ≤ most) ↔ IsBelow limit (number 8 signed b i) =
    λ i. below_8 signed (num b (1 * i) 1) limit most (omega arith) (rw (is, sign) at bound) (num_lt 1 (1 * i) b small) in
    rw is (λ e i l. (one i).0 (cut.0 (report.0 e) i l), λ g. report.1 (cut.1 (λ i l. (one i).1 (g i l))))

-- what tells of numbers of 16 bits
pub tells_16 : (bits : ℕ) (signed : Bool) (n limit most count s : ℕ) (b : List ℕ) (r : Bool) → bits ≡ 16 → (limit ≡ 0 → ⊥) → n * bits / 8
    ≤ length b
    → count ≡ bits / 8 → s ≡ bool_byte signed → most ≡ min (limit - 1) (18446744073709551615 / 2 ^ (64 - bits + s))
    → ((k : ℕ) → get_or b k 0 < 256)
    → (IsTrue r ↔ ((i : ℕ) → 2 * i < length (take (n * count) b) → num (take (n * count) b) (2 * i) 2 ≤ most))
    → IsTrue r ↔ ((i : ℕ) → i < n → IsBelow limit (number bits signed b i))
tells_16 bits signed n limit most count s b r is some inside counts sign bound small h =
    let size : count ≡ 2 = rw is at counts in
    let room : n * 2 ≤ length b = let i = rw is at inside in omega (arith, i) in
    let cut = cut_numbers 2 n most b room (omega arith) in
    let report = rw size at h in
    let one : (i : ℕ) → (num b (2 * i) 2 ≤ most) ↔ IsBelow limit (number 16 signed b i) =
    λ i. below_16 signed (num b (2 * i) 2) limit most (omega arith) (rw (is, sign) at bound) (num_lt 2 (2 * i) b small) in
    rw is (λ e i l. (one i).0 (cut.0 (report.0 e) i l), λ g. report.1 (cut.1 (λ i l. (one i).1 (g i l))))

-- what tells of numbers of 32 bits
pub tells_32 : (bits : ℕ) (signed : Bool) (n limit most count s : ℕ) (b : List ℕ) (r : Bool) → bits ≡ 32 → (limit ≡ 0 → ⊥) → n * bits / 8
    ≤ length b
    → count ≡ bits / 8 → s ≡ bool_byte signed → most ≡ min (limit - 1) (18446744073709551615 / 2 ^ (64 - bits + s))
    → ((k : ℕ) → get_or b k 0 < 256)
    → (IsTrue r ↔ ((i : ℕ) → 4 * i < length (take (n * count) b) → num (take (n * count) b) (4 * i) 4 ≤ most))
    → IsTrue r ↔ ((i : ℕ) → i < n → IsBelow limit (number bits signed b i))
tells_32 bits signed n limit most count s b r is some inside counts sign bound small h =
    let size : count ≡ 4 = rw is at counts in
    let room : n * 4 ≤ length b = let i = rw is at inside in omega (arith, i) in
    let cut = cut_numbers 4 n most b room (omega arith) in
    let report = rw size at h in
    let one : (i : ℕ) → (num b (4 * i) 4 ≤ most) ↔ IsBelow limit (number 32 signed b i) =
    λ i. below_32 signed (num b (4 * i) 4) limit most (omega arith) (rw (is, sign) at bound) (num_lt 4 (4 * i) b small) in
    rw is (λ e i l. (one i).0 (cut.0 (report.0 e) i l), λ g. report.1 (cut.1 (λ i l. (one i).1 (g i l))))

-- what tells of numbers of 64 bits
pub tells_64 : (bits : ℕ) (signed : Bool) (n limit most count s : ℕ) (b : List ℕ) (r : Bool) → bits ≡ 64 → (limit ≡ 0 → ⊥) → n * bits / 8
    ≤ length b
    → count ≡ bits / 8 → s ≡ bool_byte signed → most ≡ min (limit - 1) (18446744073709551615 / 2 ^ (64 - bits + s))
    → ((k : ℕ) → get_or b k 0 < 256)
    → (IsTrue r ↔ ((i : ℕ) → 8 * i < length (take (n * count) b) → num (take (n * count) b) (8 * i) 8 ≤ most))
    → IsTrue r ↔ ((i : ℕ) → i < n → IsBelow limit (number bits signed b i))
tells_64 bits signed n limit most count s b r is some inside counts sign bound small h =
    let size : count ≡ 8 = rw is at counts in
    let room : n * 8 ≤ length b = let i = rw is at inside in omega (arith, i) in
    let cut = cut_numbers 8 n most b room (omega arith) in
    let report = rw size at h in
    let one : (i : ℕ) → (num b (8 * i) 8 ≤ most) ↔ IsBelow limit (number 64 signed b i) =
    λ i. below_64 signed (num b (8 * i) 8) limit most (omega arith) (rw (is, sign) at bound) (num_lt 8 (8 * i) b small) in
    rw is (λ e i l. (one i).0 (cut.0 (report.0 e) i l), λ g. report.1 (cut.1 (λ i l. (one i).1 (g i l))))

-- the width that is left
pub last_width : (bits : ℕ) → IsWidth bits → (bits ≡ 8 → ⊥) → (bits ≡ 16 → ⊥) → (bits ≡ 32 → ⊥) → bits ≡ 64
last_width bits width a b c =
    elim width as (λ _. bits ≡ 64) [
      | inl e ↦ absurd (a e)
      | inr r ↦ elim r as (λ _. bits ≡ 64) [
        | inl e ↦ absurd (b e)
        | inr q ↦ elim q as (λ _. bits ≡ 64) [ inl e ↦ absurd (c e) | inr e ↦ e ]
      ]
    ]
