-- Texts, truth values, vectors and pairs that were written are those that are read.
use Rattle.std.proofs.Common.{◌≡◌, ◌∙◌, refl, ap, subst, ℕ, ◌+◌, ◌-◌, Bool, true, false, List, [], ◌∷◌, map, length, arith, inl, inr}
use Rattle.std.specs.Prelude.{nat_lt, ◌⊎◌, Option, None, Some, Result, Ok}
use Rattle.std.specs.List.{AllByRecursion}
use Rattle.ipc_scalar.specs.Bytes.{num, byte}
use Rattle.ipc_flat.specs.declared.fault.FlatFault.{FlatFault}
use Rattle.ipc_flat.specs.Flat.{field_place, elements_of, text_of}
use Rattle.ipc_flat.specs.Views.{TableView, Elements, table_from, elements_from}
use Rattle.ipc_flat.specs.Faulty.{◌>>=◌}
use Rattle.ipc_build.specs.Trees.{Tree, tables_of}
use Rattle.ipc_build.specs.Layout.{members}
use Rattle.ipc_build.specs.Encodes.{HasField, EncodesTable, in_table, in_vector}
use Rattle.ipc_meta.specs.FlatFaults.{map_fault}
use Rattle.ipc_meta.specs.Tables.{or_else, no_elements, text_at, flag_at, vector_at}
use Rattle.ipc_meta.specs.Fields.{TablesAt, VectorAt, PairAt}
use Rattle.ipc_meta.specs.Written.{flag, pair_tree, with_pairs}
use Rattle.ipc_meta.proofs.written.Standing.{Any, tab, Holds, scalar_there, field_there, field_absent, table_there, elements_there}

-- a text that was written in a field is read there
pub text_there : (b : List ℕ) (t k p : ℕ) (s : List ℕ) → field_place b t k 4 ≡ Ok (Some p) → text_of b p ≡ Ok s → text_at (tab b t) k ≡ Ok s
unfolding text_at
text_there b t k p s h g = ap (λ (r : Result (Option (List ℕ)) FlatFault). map_fault r >>= λ o. Ok (or_else [] o))
    (field_there b t k p text_of s h g)

flag_read : (v : Bool) → nat_lt 0 (flag v) ≡ v
flag_read true = refl
flag_read false = refl

-- a truth value that was written in a field is read there
pub flag_there : (b : List ℕ) (t k p : ℕ) (v : Bool) → field_place b t k 1 ≡ Ok (Some p) → num b p 1 ≡ flag v → flag_at (tab b t) k ≡ Ok v
unfolding flag_at
flag_there b t k p v h g =
    ap (λ (r : Result ℕ FlatFault). map_fault r >>= λ n. Ok (nat_lt 0 n)) (scalar_there b t k 1 p byte 0 h)
    ∙ (ap (λ (n : ℕ). Ok (nat_lt 0 n)) g ∙ ap Ok (flag_read v))

-- a vector that was written in a field is read there
pub vector_there : (b : List ℕ) (t k p q n : ℕ) → field_place b t k 4 ≡ Ok (Some p) → elements_of b p 4 ≡ Ok (q, n)
    → vector_at (tab b t) k ≡ Ok (record { bytes = b; at = q; len = n })
unfolding vector_at
vector_there b t k p q n h g =
    ap (λ (r : Result (Option Elements) FlatFault). map_fault r >>= λ o. Ok (no_elements (tab b t) o))
    (field_there b t k p (elements_from 4) (record { bytes = b; at = q; len = n }) h (elements_there b p q n 4 g))

-- where no vector was written in a field, one of no elements is read
pub vector_absent : (b : List ℕ) (t k : ℕ) → field_place b t k 4 ≡ Ok None
    → vector_at (tab b t) k ≡ Ok (record { bytes = b; at = 0; len = 0 })
unfolding vector_at
vector_absent b t k h = ap (λ (r : Result (Option Elements) FlatFault). map_fault r >>= λ o. Ok (no_elements (tab b t) o))
    (field_absent b t k (elements_from 4) h)

module _ {X : Type 0} (tree : X → Tree) (At : X → TableView → Type 0) where
  -- the tree of a vector has as many members as there are things to write
  pub members_length : (xs : List X) → members (tables_of (map tree xs)) ≡ length xs
  unfolding members
  members_length [] = refl
  members_length (x ∷ xs) = let e = members_length xs in omega (arith, e)

  -- a table that is written for this value states it
  abbrev pub States : List ℕ → X → Type 0
  States b x = (t : ℕ) → Holds b t (tree x) → At x (tab b t)

  -- tables written one after another state the things that they were written for
  pub tables_there : (b : List ℕ) (q n : ℕ) (xs : List X) → n ≡ length xs → AllByRecursion (States b) xs
      → EncodesTable Any b (in_vector q) (tables_of (map tree xs)) → TablesAt At b q n xs
  unfolding EncodesTable
  tables_there b q n [] c s h = c
  tables_there b q n (x ∷ xs) c s h =
      let here = h.0 in (
        tab b here.3.0,
        omega (arith, c),
        subst (λ (p : ℕ). table_from b p ≡ Ok (tab b here.3.0)) here.1 (table_there b here.0 here.3.0 here.3.1),
        s.0 here.3.0 (record { stands = here.3.2; lies = here.3.3 }),
        tables_there b (q + 4) (n - 1) xs (omega (arith, c)) s.1 h.1,
      )

-- a KeyValue table written for a pair states it
pub pair_there : (b : List ℕ) (p : List ℕ × List ℕ) (t : ℕ) → Holds b t (pair_tree p) → PairAt p (tab b t)
unfolding EncodesTable
pair_there b p t h =
    let key = h.lies.0 in
    let value = h.lies.1.0 in
    (text_there b t 0 key.0 p.0 key.1.0 key.3.text, text_there b t 1 value.0 p.1 value.1.0 value.3.text)

-- a vector of tables in field k
pub vector_lies : {X : Type 0} (tree : X → Tree) (At : X → TableView → Type 0) (b : List ℕ) (t k p q : ℕ) (xs : List X)
    → field_place b t k 4 ≡ Ok (Some p)
    → elements_of b p 4 ≡ Ok (q + 4, members (tables_of (map tree xs))) → EncodesTable Any b (in_vector (q + 4)) (tables_of (map tree xs))
    → AllByRecursion (States tree At b) xs → VectorAt At xs (tab b t) k
vector_lies tree At b t k p q xs s e lies each =
    let count = members_length tree At xs in (
      record { bytes = b; at = q + 4; len = members (tables_of (map tree xs)) },
      vector_there b t k p (q + 4) (members (tables_of (map tree xs))) s e,
      tables_there tree At b (q + 4) (members (tables_of (map tree xs))) xs count each lies,
    )

all_pairs : (b : List ℕ) (ps : List (List ℕ × List ℕ)) → AllByRecursion (States pair_tree PairAt b) ps
all_pairs b [] = tt
all_pairs b (p ∷ ps) = ((λ t h. pair_there b p t h), all_pairs b ps)

-- the pairs, where they are the last field of a table
pub pairs_there : (b : List ℕ) (t k : ℕ) (ps : List (List ℕ × List ℕ)) → EncodesTable Any b (in_table t) (with_pairs k ps)
    → (ps ≡ [] → field_place b t k 4 ≡ Ok None) → VectorAt PairAt ps (tab b t) k
unfolding EncodesTable
pairs_there b t k [] h absent = (record { bytes = b; at = 0; len = 0 }, vector_absent b t k (absent refl), refl)
pairs_there b t k (p ∷ ps) h absent = let here =
    h.0 in vector_lies pair_tree PairAt b t k here.0 here.3.0 (p ∷ ps) here.1.0 here.3.1 here.3.3 (all_pairs b (p ∷ ps))

-- ---- fields that are absent

-- where neither of two cases holds, their choice does not
pub neither : {A B : Type 0} → (A → ⊥) → (B → ⊥) → A ⊎ B → ⊥
neither f g (inl a) = f a
neither f g (inr b) = g b

-- a vector of pairs is no other field
pub no_pairs : (n k : ℕ) (ps : List (List ℕ × List ℕ)) → (n ≡ k → ⊥) → HasField n (with_pairs k ps) → ⊥
unfolding HasField
no_pairs n k [] other h = h
no_pairs n k (p ∷ ps) other h = neither other (λ z. z) h

-- and absent where there are none
pub pairs_absent : (n k : ℕ) (ps : List (List ℕ × List ℕ)) → ps ≡ [] → HasField n (with_pairs k ps) → ⊥
unfolding HasField
pairs_absent n k [] e h = h
pairs_absent n k (p ∷ ps) e h = absurd (cc)
