-- Tables read one after another.
use Rattle.std.proofs.Common.{◌≡◌, refl, sym, ap, ℕ, suc, ◌+◌, ◌*◌, ◌-◌, ◌<◌, List, [], ◌∷◌, ◌++◌, append_assoc, arith}
use Rattle.std.specs.Prelude.{Result, Ok, Err}
use Rattle.ipc_flat.specs.Views.{TableView, table_from}
use Rattle.ipc_flat.specs.Faulty.{◌>>=◌}
use Rattle.ipc_meta.specs.Budgets.{Reading}
use Rattle.ipc_meta.specs.declared.budget.Budget.{Budget}
use Rattle.ipc_model.specs.declared.fault.Fault.{Fault}
use Rattle.ipc_meta.specs.FlatFaults.{map_fault}
use Rattle.ipc_meta.specs.Reading.{each}

-- the list that was read, with `front` before it
abbrev pub with_front : {X : Type 0} → List X → Result (List X × Budget) Fault
    → Result (List X × Budget) Fault
with_front front r = r >>= λ xs. Ok (front ++ xs.0, xs.1)

-- the tables from the i-th of n on, with so many fields left
abbrev pub from_ith : {X : Type 0} → (TableView → Reading X) → List ℕ → ℕ → ℕ → ℕ → Reading (List X)
from_ith f b p i n left = each f b (p + i * 4) (n - i) left

-- the first of the tables that are left
each_next : {X : Type 0} (f : TableView → Reading X) (b : List ℕ) (p i n : ℕ) (left : Budget) → i < n
    → from_ith f b p i n left ≡ (map_fault (table_from b (p + i * 4)) >>= λ t. f t left >>= λ x. from_ith f b p (i + 1) n x.1
    >>= λ xs. Ok (x.0 ∷ xs.0, xs.1))
unfolding each
each_next f b p i n left h =
    let count : n - i ≡ suc (n - (i + 1)) = omega arith in
    let place : p + i * 4 + 4 ≡ p + (i + 1) * 4 = omega arith in
    rw (count, place) refl

-- one more is read
pub each_more : {X : Type 0} (f : TableView → Reading X) (b : List ℕ) (p i n : ℕ) (left after : Budget) (t : TableView) (x : X)
    (front : List X) → i < n
    → map_fault (table_from b (p + i * 4)) ≡ Ok t → f t left ≡ Ok (x, after)
    → with_front front (from_ith f b p i n left) ≡ with_front (front ++ x ∷ []) (from_ith f b p (i + 1) n after)
each_more f b p i n left after t x front h e g = rw (each_next f b p i n left h, e, g) (go (from_ith f b p (i + 1) n after))
  where
    go : (r : Result (List _ × Budget) Fault) → with_front front (r >>= λ xs. Ok (x ∷ xs.0, xs.1)) ≡ with_front (front ++ x ∷ []) r
    go (Ok xs) = ap (λ ys. Ok (ys, xs.1)) (sym (append_assoc front (x ∷ []) xs.0))
    go (Err d) = refl

-- no table is there
pub each_no_table : {X : Type 0} (f : TableView → Reading X) (b : List ℕ) (p i n : ℕ) (left : Budget) (d : Fault) (front : List X) → i < n
    → map_fault (table_from b (p + i * 4)) ≡ Err d
    → with_front front (from_ith f b p i n left) ≡ Err d
each_no_table f b p i n left d front h e = rw (each_next f b p i n left h, e) refl

-- one is refused
pub each_refused : {X : Type 0} (f : TableView → Reading X) (b : List ℕ) (p i n : ℕ) (left : Budget) (t : TableView) (d : Fault)
    (front : List X) → i < n
    → map_fault (table_from b (p + i * 4)) ≡ Ok t → f t left ≡ Err d
    → with_front front (from_ith f b p i n left) ≡ Err d
each_refused f b p i n left t d front h e g = rw (each_next f b p i n left h, e, g) refl

-- none is left
pub each_done : {X : Type 0} (f : TableView → Reading X) (b : List ℕ) (p i n : ℕ) (left : Budget) (front : List X) → i ≡ n
    → with_front front (from_ith f b p i n left) ≡ Ok (front ++ [], left)
unfolding each
each_done f b p i n left front h = let count : n - i ≡ 0 = omega arith in rw count refl
