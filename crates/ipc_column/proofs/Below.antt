-- Tests of each number below another.
use Rattle.std.proofs.Common.{◌≡◌, refl, ℕ, zero, suc, ◌+◌, ◌<◌, Bool, true, false, add-one, arith, inl, inr}
use Rattle.std.specs.Prelude.{◌&&◌}
use Rattle.std.specs.Bool.{Decides}
use Rattle.std.proofs.lemmas.Bool.{and_parts, and_from, and_left, and_right, cases_order}
use Rattle.ipc_column.specs.checks.Checks.{all_below}

-- all numbers below n + 1 pass a test where all below n do, and n does
pub all_below_more : (f : ℕ → Bool) (n : ℕ) → all_below f (n + 1) ≡ (all_below f n && f n)
all_below_more f n = rw add-one refl

-- where all numbers below n pass a test, each of them does
pub below_at : (f : ℕ → Bool) (n k : ℕ) → all_below f n ≡ true → k < n → f k ≡ true
below_at f zero k h l = absurd (omega arith)
below_at f (suc n) k h l =
    let p = and_parts (all_below f n) (f n) h in
    elim (cases_order k n) as (λ _. f k ≡ true)
    [ inl e ↦ rw e p.1 | inr r ↦ elim r as (λ _. f k ≡ true) [ inl m ↦ below_at f n k p.0 m | inr m ↦ absurd (omega arith) ] ]

-- where each number below n passes a test, all of them do
pub below_from : (f : ℕ → Bool) (n : ℕ) → ((k : ℕ) → k < n → f k ≡ true) → all_below f n ≡ true
below_from f zero h = refl
below_from f (suc n) h = and_from _ _ (below_from f n (λ k l. h k (omega arith))) (h n (omega arith))

-- one that fails
pub below_fails : (f : ℕ → Bool) (n k : ℕ) → k < n → f k ≡ false → all_below f n ≡ false
below_fails f zero k l e = absurd (omega arith)
below_fails f (suc n) k l e =
    elim (cases_order k n) as (λ _. (all_below f n && f n) ≡ false) [
      | inl m ↦ and_right (all_below f n) (f n) (rw m at e)
      | inr r ↦ elim r as (λ _. (all_below f n && f n) ≡ false)
          [ inl m ↦ and_left (all_below f n) (f n) (below_fails f n k m e) | inr m ↦ absurd (omega arith) ]
    ]

-- what each test decides, all decide
pub decides_below : (f : ℕ → Bool) (P : ℕ → Type 0) → ((k : ℕ) → Decides (f k) (P k)) → (n : ℕ)
    → Decides (all_below f n) ((k : ℕ) → k < n → P k)
decides_below f P d n = (λ e k l. (d k).0 (below_at f n k e l), λ h. below_from f n (λ k l. (d k).1 (h k l)))
