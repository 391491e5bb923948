-- What is taken in front of a text, and what is left of it.
use Rattle.std.proofs.Common.{◌≡◌, List, ℕ, Option, Some, ap}

-- where two are the same, so is what they hold
pub left : {A : Type 0} {a b : A} → ◌≡◌ {A = Option A} (Some a) (Some b) → a ≡ b
left e = cc

-- where two pairs are the same, so are their parts
pub taken : {A : Type 0} {a b : A} {s t : List ℕ} → ◌≡◌ {A = Option (A × List ℕ)} (Some (a, s)) (Some (b, t))
    → (a ≡ b) × (s ≡ t)
taken e = let p = left e in (ap (λ q. q.0) p, ap (λ q. q.1) p)

-- two pairs are the same where their parts are
pub both : {A : Type 0} {a b : A} {s t : List ℕ} → a ≡ b → s ≡ t → ◌≡◌ {A = Option (A × List ℕ)} (Some (a, s)) (Some (b, t))
both e f = cc

-- the same of four
pub taken_four : {A : Type 0} {a b d p q r : A} {s t : List ℕ}
    → ◌≡◌ {A = Option (A × A × A × List ℕ)} (Some (a, b, d, s)) (Some (p, q, r, t)) → (a ≡ p) × (b ≡ q) × (d ≡ r) × (s ≡ t)
taken_four e = let p = left e in (ap (λ q. q.0) p, ap (λ q. q.1) p, ap (λ q. q.2) p, ap (λ q. q.3) p)
