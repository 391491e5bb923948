-- Numbers from 0 to a count less 1, which are indices of so many values.
use Rattle.std.proofs.Common.{◌≡◌, refl, subst, arith, ℕ, ◌+◌, ◌<◌, Bool, true, false, List, []}
use Rattle.std.specs.Prelude.{ℤ, pos, negsuc, is_some}
use Rattle.std.proofs.lemmas.Bool.{lt-ltb}
use Rattle.std.proofs.lemmas.Int.{ints}
use Rattle.ipc_scalar.specs.Bytes.{number, IsBelow}
use Rattle.ipc_model.specs.declared.schema.IntBits.{IntBits}
use Rattle.ipc_model.specs.declared.schema.IntBits.TheVariants.{B8, B16, B32, B64}
use Rattle.ipc_model.specs.Ranges.{width}
use Rattle.ipc_column.specs.checks.Checks.{all_slots, index_good}
use Rattle.ipc_column.specs.Values.{number_in, place_below}
use Rattle.ipc_column.proofs.Below.{below_from}

-- an index of a value
index_below : (n : ℕ) (x : ℤ) → IsBelow n x → is_some (place_below n x) ≡ true
index_below n (pos x) h = let high = h.1 in let l : x < n = omega (arith, ints) in rw (lt-ltb x n l) refl
index_below n (negsuc x) h = let low = h.0 in absurd (omega (arith, ints))

-- the same number, read in two ways
number_is : (bits : IntBits) (signed : Bool) (b : List ℕ) (i : ℕ) → number (width bits) signed b i ≡ number_in bits signed b i
number_is B8 true b i = refl
number_is B16 true b i = refl
number_is B32 true b i = refl
number_is B64 true b i = refl
number_is B8 false b i = refl
number_is B16 false b i = refl
number_is B32 false b i = refl
number_is B64 false b i = refl

-- slots that hold numbers below a count
pub slots_good : (bits : IntBits) (signed : Bool) (n : ℕ) (b : List ℕ) (slots : ℕ)
    → ((i : ℕ) → i < slots → IsBelow n (number (width bits) signed b i)) → all_slots (index_good [] bits signed n b) 0 slots ≡ true
slots_good bits signed n b slots all = below_from (λ k. index_good [] bits signed n b (0 + k)) slots
    (λ k l. index_below n (number_in bits signed b (0 + k)) (good (0 + k) (omega arith)))
  where
    good : (k : ℕ) → k < slots → IsBelow n (number_in bits signed b k)
    good k l = subst (IsBelow n) (number_is bits signed b k) (all k l)
