-- The table of pairs of digits.
use Rattle.std.proofs.Common.{◌≡◌, ◌+◌, ◌/◌, ◌%◌, ◌<◌, ◌==◌, ℕ, true, slice_index, refl}
use Rattle.std.specs.Int.{w16, to_le_bytes}
use Rattle.std.proofs.lemmas.Bool.{agree_below_at, eqb-true}
use Rattle.ipc_text_temporal.specs.Calendar.{two_digits}
use Rattle.ipc_text_temporal.specs.declared.pairs.TheConstants.{PAIRS}

first_is : (n : ℕ) → n < 100 → slice_index (to_le_bytes w16 (slice_index PAIRS n)) 0 ≡ 48 + n / 10
first_is n small = eqb-true _ _
    (agree_below_at (λ k. slice_index (to_le_bytes w16 (slice_index PAIRS k)) 0 == 48 + k / 10) (λ k. true) 100 n refl small)

second_is : (n : ℕ) → n < 100 → slice_index (to_le_bytes w16 (slice_index PAIRS n)) 1 ≡ 48 + n % 10
second_is n small = eqb-true _ _
    (agree_below_at (λ k. slice_index (to_le_bytes w16 (slice_index PAIRS k)) 1 == 48 + k % 10) (λ k. true) 100 n refl small)

-- entry n of the table has the two digits of n as bytes, the first digit in the lower one
pub pair_digits : (n : ℕ) → n < 100 → to_le_bytes w16 (slice_index PAIRS n) ≡ two_digits n
pair_digits n small = rw (← first_is n small, ← second_is n small) refl
