-- Elements of lists.
use Rattle.std.proofs.Common.{◌≡◌, ℕ, zero, suc, ◌<◌, List, [], ◌∷◌, ◌++◌, length, Some, arith}
use Rattle.std.specs.Prelude.{slice_get}
use Rattle.std.specs.List.{AllByRecursion}

module _ {X : Type 0} (P : X → Type 0) where
  -- what holds of all elements and of one more holds of all with that one after them
  pub all_more : (xs : List X) (x : X) → AllByRecursion P xs → P x → AllByRecursion P (xs ++ x ∷ [])
  all_more [] x all one = (one, tt)
  all_more (y ∷ ys) x all one = (all.0, all_more ys x all.1 one)

-- where an element is found at i, i is below the length
pub got_inside : {X : Type 0} (xs : List X) (i : ℕ) (x : X) → slice_get xs i ≡ Some x → i < length xs
got_inside [] i x at = absurd (cc)
got_inside (y ∷ ys) zero x at = omega arith
got_inside (y ∷ ys) (suc i) x at = let h = got_inside ys i x at in omega (arith, h)
