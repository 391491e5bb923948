-- Only texts are judged as UTF-8.
use Rattle.std.proofs.Common.{◌≡◌, ap, ℕ, ◌+◌, ◌*◌, Bool, true, false, List, length, Option, None, Some}
use Rattle.std.specs.Prelude.{◌==◌, nat_le, Result, Ok, Err, if◌then◌else◌}
use Rattle.ipc_scalar.specs.Bytes.{num, int32}
use Rattle.ipc_flat.specs.Faulty.{◌>>=◌, ok_if, where_some}
use Rattle.ipc_flat.specs.Flat.{back_of, is_vtable, vtable_behind, vtable_of, vtable_entry, place_of, field_place, points, table_position}
use Rattle.ipc_flat.specs.Flat.{elements_of}
use Rattle.ipc_flat.specs.declared.fault.FlatFault.{FlatFault}
use Rattle.ipc_flat.specs.declared.fault.FlatFault.TheVariants.{OffsetZero, OutOfBounds, BadVtable, NotUtf8}
use Rattle.ipc_flat.specs.Views.{TableView, table_from, field, elements_from, structs_from}

-- the answer is no text's
abbrev pub NoText : {X : Type 0} → Result X FlatFault → Type 0
NoText r = r ≡ Err NotUtf8 → ⊥

both : {A B : Type 0} (r : Result A FlatFault) (next : A → Result B FlatFault) → NoText r → ((x : A) → NoText (next x))
    → NoText (r >>= next)
both (Ok x) next here there h = there x h
both (Err e) next here there h = let same : e ≡ NotUtf8 = cc in here (ap Err same)

tested : {X : Type 0} (c : Bool) (e : FlatFault) (x : X) → (e ≡ NotUtf8 → ⊥) → NoText (ok_if c e x)
tested true e x other h = cc
tested false e x other h = let same : e ≡ NotUtf8 = cc in other same

no_vtable : (b : List ℕ) (t : ℕ) → NoText (vtable_of b t)
unfolding vtable_of
no_vtable b t = both (ok_if (nat_le (t + 4) (length b)) OutOfBounds (back_of t (int32 b t))) (vtable_behind b)
    (tested _ OutOfBounds _ (λ h. cc)) go
  where
    go : (o : Option ℕ) → NoText (vtable_behind b o)
    go None h = cc
    go (Some v) h = tested (is_vtable b v) BadVtable v (λ i. cc) h

-- the place of a field is no text, so it is never refused as one that isn't UTF-8
pub no_slot : (b : List ℕ) (t k w : ℕ) → NoText (field_place b t k w)
unfolding field_place
no_slot b t k w = both (vtable_of b t) _ (no_vtable b t) (λ v. go (vtable_entry b v k))
  where
    go : (e : ℕ) → NoText (place_of b t w e)
    go e = by_test (e == 0)
      where
        by_test : (c : Bool) → NoText (if c then Ok None else ok_if (nat_le (t + e + w) (length b)) OutOfBounds (Some (t + e)))
        by_test true h = cc
        by_test false h = tested (nat_le (t + e + w) (length b)) OutOfBounds (Some (t + e)) (λ i. cc) h

no_points : (b : List ℕ) (p : ℕ) → NoText (points b p)
unfolding points
no_points b p = both (ok_if (nat_le (p + 4) (length b)) OutOfBounds (num b p 4)) _ (tested _ OutOfBounds _ (λ h. cc)) go
  where
    go : (o : ℕ) → NoText (if o == 0 then Err OffsetZero else ok_if (nat_le (p + o) (length b)) OutOfBounds (p + o))
    go o = by_test (o == 0)
      where
        by_test : (c : Bool) → NoText (if c then Err OffsetZero else ok_if (nat_le (p + o) (length b)) OutOfBounds (p + o))
        by_test true h = cc
        by_test false h = tested (nat_le (p + o) (length b)) OutOfBounds (p + o) (λ i. cc) h

-- a table behind an offset is never refused as a text that isn't UTF-8
pub no_table_from : (b : List ℕ) (p : ℕ) → NoText (table_from b p)
unfolding table_from table_position
no_table_from b p = both (points b p >>= λ t. vtable_of b t >>= λ v. Ok t) _
    (both (points b p) _ (no_points b p) (λ t. both (vtable_of b t) _ (no_vtable b t) (λ v h. cc))) (λ t h. cc)

no_elements : (b : List ℕ) (p width : ℕ) → NoText (elements_of b p width)
unfolding elements_of
no_elements b p width =
    both (points b p) _ (no_points b p) (λ q.
    both (ok_if (nat_le (q + 4) (length b)) OutOfBounds (num b q 4)) _ (tested _ OutOfBounds _ (λ h. cc)) (λ n.
    tested (nat_le (q + 4 + n * width) (length b)) OutOfBounds (q + 4, n) (λ h. cc)))

no_elements_from : (width : ℕ) (b : List ℕ) (p : ℕ) → NoText (elements_from width b p)
unfolding elements_from
no_elements_from width b p = both (elements_of b p width) _ (no_elements b p width) (λ e h. cc)

no_structs_from : (width : ℕ) (b : List ℕ) (p : ℕ) → NoText (structs_from width b p)
unfolding structs_from
no_structs_from width b p = both (elements_of b p width) _ (no_elements b p width) (λ e h. cc)

no_field : {X : Type 0} (t : TableView) (k : ℕ) (f : List ℕ → ℕ → Result X FlatFault) → ((p : ℕ) → NoText (f t.bytes p))
    → NoText (field t k f)
unfolding field
no_field t k f other = both (field_place t.bytes t.at k 4) _ (no_slot t.bytes t.at k 4) go
  where
    go : (o : Option ℕ) → NoText (where_some (f t.bytes) o)
    go None h = cc
    go (Some p) h = both (f t.bytes p) _ (other p) (λ x i. cc) h

-- the table in a field is never refused as a text that isn't UTF-8
pub no_table_in : (t : TableView) (k : ℕ) → NoText (field t k table_from)
no_table_in t k = no_field t k table_from (no_table_from t.bytes)

-- the vector of tables in a field is never refused as a text that isn't UTF-8
pub no_tables_in : (t : TableView) (k : ℕ) → NoText (field t k (elements_from 4))
no_tables_in t k = no_field t k (elements_from 4) (no_elements_from 4 t.bytes)

-- the vector of structs in a field is never refused as a text that isn't UTF-8
pub no_structs_in : (t : TableView) (k : ℕ) → NoText (field t k (structs_from 16))
no_structs_in t k = no_field t k (structs_from 16) (no_structs_from 16 t.bytes)
