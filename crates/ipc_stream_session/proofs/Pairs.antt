-- Numbers that are pairs, two by two.
use Rattle.std.proofs.Common.{◌≡◌, ◌∙◌, refl, sym, ap, ℕ, ◌+◌, ◌*◌, ◌%◌, List, [], ◌∷◌, ◌++◌, length, take, drop, arith}
use Rattle.std.proofs.Math.Seq.{take-add}
use Rattle.std.specs.Prelude.{ℤ}
use Rattle.ipc_stream.specs.Canonical.{flat}

-- pairs are an even number of numbers
pub pairs_length : (ps : List (ℤ × ℤ)) → length (flat ps) ≡ 2 * length ps
pairs_length [] = refl
pairs_length (p ∷ ps) = omega (arith, pairs_length ps)

-- the numbers of one pair more
pub flat_more : (ps : List (ℤ × ℤ)) (p : ℤ × ℤ) → flat (ps ++ p ∷ []) ≡ flat ps ++ p.0 ∷ p.1 ∷ []
flat_more [] p = refl
flat_more (q ∷ ps) p = ap (λ xs. q.0 ∷ q.1 ∷ xs) (flat_more ps p)

-- an odd number of numbers are no pairs
pub odd_numbers : (ps : List (ℤ × ℤ)) (ns : List ℤ) → (length ns % 2) ≡ 1 → flat ps ≡ ns → ⊥
odd_numbers ps ns odd same = absurd (omega (arith, odd, pairs_length ps, ap length same))

-- one pair more is the numbers up to the next pair
pub more_pairs : (ps : List (ℤ × ℤ)) (p : ℤ × ℤ) (n : ℕ) (ns : List ℤ) → flat ps ≡ take (2 * n) ns
    → take 2 (drop (2 * n) ns) ≡ p.0 ∷ p.1 ∷ [] → flat (ps ++ p ∷ []) ≡ take (2 * (n + 1)) ns
more_pairs ps p n ns so next = flat_more ps p
    ∙ (ap (λ xs. xs ++ p.0 ∷ p.1 ∷ []) so
    ∙ (ap (λ xs. take (2 * n) ns ++ xs) (sym next) ∙ (sym (take-add (2 * n) 2 ns) ∙ ap (λ m. take m ns) (omega arith))))
