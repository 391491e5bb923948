-- Bits that are set in one bitmap and in another.
use Rattle.std.proofs.Common.{◌≡◌, ◌∙◌, sym, ap, ℕ, zero, suc, ◌+◌, ◌-◌, ◌*◌, ◌/◌, ◌%◌, ◌<◌, true, List}
use Rattle.std.proofs.Common.{get_or, arith, refl, inl, inr}
use Rattle.std.proofs.lemmas.Bool.{and_parts, cases_lt}
use Rattle.std.proofs.lemmas.Nat.Bits.{bit_at-lt, bit_at_and}
use Rattle.std.specs.Int.{bit_at}
use Rattle.std.specs.Prelude.{◌==◌, ◌&&◌, bit_and, min}
use Rattle.ipc_scalar.specs.Bytes.{bit}

both_one : (a b : ℕ) → a < 2 → b < 2 → (min a b == 1) ≡ ((a == 1) && (b == 1))
both_one zero zero h g = refl
both_one zero (suc zero) h g = refl
both_one (suc zero) zero h g = refl
both_one (suc zero) (suc zero) h g = refl
both_one a (suc (suc b)) h g = absurd (omega arith)
both_one (suc (suc a)) b h g = absurd (omega arith)

-- a bit that is set in both of two numbers
both_set : (x y r : ℕ) → (bit_at (bit_and x y) r == 1) ≡ ((bit_at x r == 1) && (bit_at y r == 1))
both_set x y r = ap (λ (n : ℕ). n == 1) (bit_at_and x y r) ∙ both_one (bit_at x r) (bit_at y r) (bit_at-lt x r) (bit_at-lt y r)

-- a bit, by its byte
bit_in_byte : (bs : List ℕ) (k r : ℕ) → r < 8 → bit bs (8 * k + r) ≡ (bit_at (get_or bs k 0) r == 1)
unfolding bit
bit_in_byte bs k r h =
    let byte : (8 * k + r) / 8 ≡ k = omega arith in
    let place : (8 * k + r) % 8 ≡ r = omega arith in
    rw (byte, place) refl

-- the bits of one byte more, all of which are set in that of another list too
pub among_next : (xs ys : List ℕ) (k : ℕ) → bit_and (get_or xs k 0) (get_or ys k 0) ≡ get_or xs k 0
    → ((i : ℕ) → i < 8 * k → bit xs i ≡ true → bit ys i ≡ true) → (i : ℕ) → i < 8 * (k + 1) → bit xs i ≡ true → bit ys i ≡ true
among_next xs ys k same before i m set = elim (cases_lt i (8 * k)) as (λ _. bit ys i ≡ true) [
  | inl under ↦ before i under set
  | inr over ↦
      let x = get_or xs k 0 in
      let y = get_or ys k 0 in
      let r : ℕ = i - 8 * k in
      let inside : r < 8 = omega (arith, m, over) in
      let place : 8 * k + r ≡ i = omega (arith, over) in
      let own : (bit_at x r == 1) ≡ true =
      sym (bit_in_byte xs k r inside) ∙ (ap (λ (n : ℕ). bit xs n) place ∙ set) in
      let both = sym (both_set x y r) ∙ (ap (λ (n : ℕ). bit_at n r == 1) same ∙ own) in
      ap (λ (n : ℕ). bit ys n) (sym place) ∙ (bit_in_byte ys k r inside ∙ (and_parts (bit_at x r == 1) (bit_at y r == 1) both).1)
]
