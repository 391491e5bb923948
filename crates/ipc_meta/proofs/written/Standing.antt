-- What a table that lies in the bytes holds, field by field, as the reader finds it.
use Rattle.std.proofs.Common.{◌≡◌, ◌∙◌, ap, ℕ, List}
use Rattle.std.specs.Prelude.{Option, None, Some, Result, Ok, ⊤}
use Rattle.ipc_flat.specs.declared.fault.FlatFault.{FlatFault}
use Rattle.ipc_flat.specs.Faulty.{◌>>=◌, where_some}
use Rattle.ipc_flat.specs.Flat.{field_place, table_position, elements_of}
use Rattle.ipc_flat.specs.Views.{TableView, or_default, table_from, scalar, field, elements_from, structs_from}
use Rattle.ipc_build.specs.Trees.{Tree}
use Rattle.ipc_build.specs.Encodes.{IsTablePlaced, EncodesTable, in_table}

abbrev pub Any : ℕ → ℕ → Type 0
Any w p = ⊤

-- the table at t
abbrev pub tab : List ℕ → ℕ → TableView
tab b t = record { bytes = b; at = t }

-- a table at t has these fields, and no others
pub record Holds (b : List ℕ) (t : ℕ) (f : Tree) : Type 0 where
  pub stands : IsTablePlaced Any b t f
  pub lies : EncodesTable Any b (in_table t) f

-- a number whose field has a place in the bytes is the one there
pub scalar_there : {X : Type 0} (b : List ℕ) (t k w p : ℕ) (read : List ℕ → ℕ → X) (d : X) → field_place b t k w ≡ Ok (Some p)
    → scalar (tab b t) k w read d ≡ Ok (read b p)
unfolding scalar
scalar_there b t k w p read d h = ap (λ (r : Result (Option ℕ) FlatFault). r >>= λ o. Ok (or_default (read b) d o)) h

-- a number whose field has no place is its default
pub scalar_absent : {X : Type 0} (b : List ℕ) (t k w : ℕ) (read : List ℕ → ℕ → X) (d : X) → field_place b t k w ≡ Ok None
    → scalar (tab b t) k w read d ≡ Ok d
unfolding scalar
scalar_absent b t k w read d h = ap (λ (r : Result (Option ℕ) FlatFault). r >>= λ o. Ok (or_default (read b) d o)) h

-- a field that has a place holds what is read there
pub field_there : {X : Type 0} (b : List ℕ) (t k p : ℕ) (f : List ℕ → ℕ → Result X FlatFault) (x : X) → field_place b t k 4 ≡ Ok (Some p)
    → f b p ≡ Ok x → field (tab b t) k f ≡ Ok (Some x)
unfolding field
field_there {X} b t k p f x h g = ap (λ (r : Result (Option ℕ) FlatFault). r >>= where_some (f b)) h
    ∙ ap (λ (r : Result X FlatFault). r >>= λ y. Ok (Some y)) g

-- a field that has no place holds nothing
pub field_absent : {X : Type 0} (b : List ℕ) (t k : ℕ) (f : List ℕ → ℕ → Result X FlatFault) → field_place b t k 4 ≡ Ok None
    → field (tab b t) k f ≡ Ok None
unfolding field
field_absent b t k f h = ap (λ (r : Result (Option ℕ) FlatFault). r >>= where_some (f b)) h

-- where an offset leads to a table, that table is read
pub table_there : (b : List ℕ) (p u : ℕ) → table_position b p ≡ Ok u → table_from b p ≡ Ok (tab b u)
unfolding table_from
table_there b p u h = ap (λ (r : Result ℕ FlatFault). r >>= λ t. Ok (tab b t)) h

-- where an offset leads to a vector, its elements are read
pub elements_there : (b : List ℕ) (p q n w : ℕ) → elements_of b p w ≡ Ok (q, n)
    → elements_from w b p ≡ Ok (record { bytes = b; at = q; len = n })
unfolding elements_from
elements_there b p q n w h = ap (λ (r : Result (ℕ × ℕ) FlatFault). r >>= λ e. Ok (record { bytes = b; at = e.0; len = e.1 })) h

-- where an offset leads to a vector of structs, they are read
pub structs_there : (b : List ℕ) (p q n w : ℕ) → elements_of b p w ≡ Ok (q, n)
    → structs_from w b p ≡ Ok (record { bytes = b; at = q; len = n; width = w })
unfolding structs_from
structs_there b p q n w h = ap (λ (r : Result (ℕ × ℕ) FlatFault). r >>= λ e. Ok (record { bytes = b; at = e.0; len = e.1; width = w })) h
