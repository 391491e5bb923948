-- Slots of a fixed width, and the numbers in them.
use Rattle.std.proofs.Common.{◌≡◌, ◌∙◌, sym, ℕ, ◌+◌, ◌*◌, ◌/◌, ◌<◌, ◌≤◌, true, List, get_or, arith, le-leb, inl}
use Rattle.std.proofs.Common.{inr}
use Rattle.std.specs.Prelude.{nat_le}
use Rattle.std.proofs.Math.Nat.{le-div_iff_mul-le, mul-le-mul_left}
use Rattle.std.proofs.lemmas.Bool.{leb-true, lt-leb, cases_lt}
use Rattle.ipc_scalar.specs.Bytes.{num, byte}

-- a quotient tells whether a product fits
pub holds_by_quotient : (w n bytes : ℕ) → 0 < w → nat_le n (bytes / w) ≡ nat_le (w * n) bytes
holds_by_quotient w n bytes h =
    elim (cases_lt (bytes / w) n) as (λ _. nat_le n (bytes / w) ≡ nat_le (w * n) bytes) [
      | inl m ↦ lt-leb n (bytes / w) m ∙ sym (lt-leb (w * n) bytes (past m))
      | inr l ↦ le-leb n (bytes / w) l ∙ sym (le-leb (w * n) bytes (inside l))
    ]
  where
    inside : n ≤ bytes / w → w * n ≤ bytes
    inside l = let g : n * w ≤ bytes = (le-div_iff_mul-le {k = w} {x = n} {y = bytes} h).0 l in omega (arith, g)

    past : bytes / w < n → bytes < w * n
    past m =
        elim (cases_lt bytes (w * n)) as (λ _. bytes < w * n) [
          | inl l ↦ l
          | inr l ↦ let q : n ≤ bytes / w = (le-div_iff_mul-le {k = w} {x = n} {y = bytes} h).1
              (let g : n * w ≤ bytes = omega (arith, l) in g) in absurd (omega (arith, q, m))
        ]

-- slot i of n that fit
pub slot_inside : (w n i bytes : ℕ) → nat_le (w * n) bytes ≡ true → i < n → w * (i + 1) ≤ bytes
slot_inside w n i bytes h l =
    let fits : w * n ≤ bytes = leb-true (w * n) bytes h in
    omega (arith, fits, mul-le-mul_left w (let m : i + 1 ≤ n = omega arith in m))

-- the byte at a place, as a number
pub byte_is : (b : List ℕ) (p : ℕ) → byte b (1 * p) ≡ get_or b p 0
unfolding num
byte_is b p = let same : 1 * p ≡ p = omega arith in rw same (omega arith)
