-- Columns below a column.
use Rattle.std.proofs.Common.{◌≡◌, ◌∙◌, refl, sym, ap, subst, ℕ, zero, suc, ◌+◌, ◌<◌, List, [], ◌∷◌, ◌++◌, length, map}
use Rattle.std.proofs.Common.{Some, None, Option, arith, take, add-one, get_or}
use Rattle.std.specs.Prelude.{slice_get, sum}
use Rattle.std.proofs.lemmas.List.{length-map}
use Rattle.std.proofs.lemmas.List.Sums.{sum_by-cons}
use Rattle.std.proofs.lemmas.Option.{none-some, slice_get_read}
use Rattle.ipc_column.specs.declared.ranges.ColumnRanges.{ColumnRanges}
use Rattle.ipc_column.specs.Nested.{Nested}
use Rattle.ipc_column.specs.Slots.{nested, nested_in}
use Rattle.job_print.specs.Trees.{count, count_below}
use Rattle.job_print.specs.TreeFalls.{count_is}

pub some_same : (a b : Nested) → Some a ≡ Some b → a ≡ b
some_same a b h = ap (λ (o : Option Nested). out o) h
  where
    out : Option Nested → Nested
    out (Some x) = x
    out None = a

fewer_at : (body : List ℕ) (ps : List ColumnRanges) (i : ℕ) (child : Nested) → slice_get (map (nested body) ps) i ≡ Some child
    → count_below child < sum (map count ps)
fewer_at body [] i child e = absurd (none-some child e)
fewer_at body (p ∷ ps) zero child e =
    subst (λ (n : Nested). count_below n < sum (map count (p ∷ ps))) (some_same _ _ e)
    (omega (arith, count_is p, sum_by-cons (λ n. n) (count p) (map count ps)))
fewer_at body (p ∷ ps) (suc i) child e =
    let less = fewer_at body ps i child e in omega (arith, less, sum_by-cons (λ n. n) (count p) (map count ps))

-- a child has fewer columns below it
pub child_fewer : (n child : Nested) (i : ℕ) → slice_get (nested_in n) i ≡ Some child → count_below child < count_below n
child_fewer n child i e = fewer_at n.body n.children i child e

take_found : (xs : List Nested) (i : ℕ) (x : Nested) → slice_get xs i ≡ Some x → take (suc i) xs ≡ take i xs ++ x ∷ []
take_found [] i x e = absurd (none-some x e)
take_found (y ∷ xs) zero x e = ap (λ (z : Nested). z ∷ []) (some_same _ _ e)
take_found (y ∷ xs) (suc i) x e = ap (λ (zs : List Nested). y ∷ zs) (take_found xs i x e)

-- one more of the children
pub child_found : (n child tree : Nested) (children more : List Nested) (i : ℕ) → slice_get (nested_in n) i ≡ Some child → tree ≡ child
    → children ≡ take i (nested_in n) → more ≡ children ++ tree ∷ [] → more ≡ take (i + 1) (nested_in n)
child_found n child tree children more i at same before put =
    rw add-one (put ∙ (ap (λ (ts : List Nested). ts ++ tree ∷ []) before ∙ (ap (λ (t : Nested). take i (nested_in n) ++ t ∷ []) same
    ∙ sym (take_found (nested_in n) i child at))))

-- the children of a column that is this one
module _ (n m : Nested) (children : List Nested) (are : children ≡ nested_in n) (same : n ≡ m) where
  -- how many there are
  pub children_length : length children ≡ length m.children
  children_length = ap length are ∙ (length-map n.children (nested n.body) ∙ ap (λ (k : Nested). length k.children) same)

  -- the one that is found at i
  pub child_at : (i : ℕ) (child : Nested) → i < length m.children → child ≡ get_or children i child
      → slice_get (nested_in m) i ≡ Some child
  child_at i child inside is =
      subst (λ (ns : List Nested). slice_get ns i ≡ Some child) (are ∙ ap nested_in same)
      (slice_get_read children (length children) i child refl (rw children_length inside) is)
