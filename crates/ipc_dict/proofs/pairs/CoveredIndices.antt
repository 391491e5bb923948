-- An index of a dictionary's values is one of its index type, and each value that was noted has one.
use Rattle.std.proofs.Common.{◌≡◌, ◌∙◌, refl, sym, ap, subst, ℕ, zero, suc, ◌+◌, ◌-◌, ◌^◌, ◌<◌, ◌≤◌, Bool, true, false, cond}
use Rattle.std.proofs.Common.{ℤ, List, [], ◌∷◌, length, map, Option, Some, None, IsSome, int_eq, arith}
use Rattle.std.specs.Prelude.{min}
use Rattle.std.specs.List.{Contains}
use Rattle.std.specs.Option.{IfSome}
use Rattle.std.proofs.lemmas.Int.{ints}
use Rattle.std.proofs.lemmas.Bool.Decides.{Decides-int_eq}
use Rattle.std.proofs.lemmas.List.Elements.{All-contains, All-from_recursion}
use Rattle.ipc_model.specs.declared.schema.Dictionary.{Dictionary}
use Rattle.ipc_model.specs.declared.schema.Field.{Field}
use Rattle.ipc_model.specs.declared.schema.IntBits.{IntBits}
use Rattle.ipc_model.specs.declared.schema.IntBits.TheVariants as b
use Rattle.ipc_model.specs.declared.value.Value.{Value}
use Rattle.ipc_encode.specs.Indices.{IsIndexWithin}
use Rattle.ipc_dict.specs.declared.entry.TallyEntry.{TallyEntry}
use Rattle.ipc_dict.specs.Distinct.{same, first_index}
use Rattle.ipc_dict.specs.Noting.{note_entry, note_one, note_all, values_noted_for, place_of_value, AllFit}
use Rattle.ipc_dict.specs.SchemaIds.{index_type_capacity, index_capacity, of_fields, tally_bounds, tally_ids, empty_entries}
use Rattle.ipc_dict.specs.SchemaEntries.{counts_for, least, AreInOrder}
use Rattle.ipc_dict.specs.Sending.{AreAddressed}
use Rattle.ipc_dict.proofs.Places.{places_all}
use Rattle.ipc_dict.proofs.ids.SchemaEntries.{are_of_schema}

-- ---- an index of its type

within : (bits : IntBits) (signed : Bool) (i : ℕ) → i < min (index_type_capacity bits signed) (2 ^ 64 - 1) → IsIndexWithin bits signed i
within b.B8 true i h = (omega (arith, ints), omega (arith, ints))
within b.B8 false i h = omega arith
within b.B16 true i h = (omega (arith, ints), omega (arith, ints))
within b.B16 false i h = omega arith
within b.B32 true i h = (omega (arith, ints), omega (arith, ints))
within b.B32 false i h = omega arith
within b.B64 true i h = (omega (arith, ints), omega (arith, ints))
within b.B64 false i h = omega arith

-- an index below the count of its type is one of the type
pub index_within : (d : Dictionary) (i : ℕ) → i < index_capacity d → IsIndexWithin d.index.bits d.index.signed i
index_within d i h = within d.index.bits d.index.signed i h

-- ---- an index below the count

-- the least count of an id is at most that of each field with it
least_counts : (ds : List Dictionary) (d : Dictionary) → Contains ds d → least (counts_for ds d.id) ≤ index_capacity d
least_counts [] d named = absurd (omega (arith, named.1))
least_counts (x ∷ ds) d (zero, low, at) =
    let here : int_eq x.id d.id ≡ true = (Decides-int_eq x.id d.id).1 (ap (λ (y : Dictionary). y.id) at) in
    let counts : index_capacity x ≡ index_capacity d = ap index_capacity at in
    subst (λ c. least (cond c (index_capacity x ∷ counts_for ds d.id) (counts_for ds d.id)) ≤ index_capacity d) (sym here)
    (omega (arith, counts))
least_counts (x ∷ ds) d (suc k, low, at) =
    let rest : least (counts_for ds d.id) ≤ index_capacity d = least_counts ds d (k, omega (arith, low), at) in
    elim (int_eq x.id d.id) as (λ c. least (cond c (index_capacity x ∷ counts_for ds d.id) (counts_for ds d.id)) ≤ index_capacity d)
    [ true ↦ omega (arith, rest) | false ↦ rest ]

module _ (id : ℤ) (n : ℕ) where
  -- each entry of the id has at most so many values
  abbrev Limited : List TallyEntry → Type 0
  Limited [] = Unit {0}
  Limited (e ∷ es) = (int_eq e.id id ≡ true → e.limit ≤ n) × Limited es

  limited-note_one : (t : List TallyEntry) (k : ℤ) (w : Value) → Limited t → Limited (note_one t k w)
  limited-note_one [] k w h = h
  limited-note_one (e ∷ es) k w h =
      elim (int_eq e.id k) as (λ c. Limited (cond c (note_entry w e ∷ es) (e ∷ note_one es k w)))
      [ true ↦ (h.0, h.1) | false ↦ (h.0, limited-note_one es k w h.1) ]

  limited-note_all : (t : List TallyEntry) (ps : List (ℤ × Value)) → Limited t → Limited (note_all t ps)
  limited-note_all t [] h = h
  limited-note_all t (p ∷ ps) h = limited-note_all (note_one t p.0 p.1) ps (limited-note_one t p.0 p.1 h)

  -- that depends on the ids and limits alone
  limited_same : (es fs : List TallyEntry) → tally_bounds es ≡ tally_bounds fs → Limited fs → Limited es
  limited_same [] fs same h = tt
  limited_same (e ∷ es) [] same h = absurd cc
  limited_same (e ∷ es) (f ∷ fs) same h =
      let rest : tally_bounds es ≡ tally_bounds fs = cc in
      let head : (e.id, e.limit) ≡ (f.id, f.limit) = cc in (
        λ is. subst (λ m. m ≤ n) (sym (ap (λ (p : ℤ × ℕ). p.1) head)) (h.0 (ap (λ (p : ℤ × ℕ). int_eq p.0 id) (sym head) ∙ is)),
        limited_same es fs rest h.1,
      )

  limited-order : (ds : List Dictionary) → least (counts_for ds id) ≤ n → (from : ℕ) (es : List TallyEntry) → AreInOrder ds from es
      → Limited es
  limited-order ds low from [] h = tt
  limited-order ds low from (e ∷ es) (k, (after, (first_index, (limit, (none, rest))))) = (
    λ is. subst (λ m. m ≤ n) (sym (limit ∙ ap (λ x. least (counts_for ds x)) ((Decides-int_eq e.id id).0 is))) low,
    limited-order ds low (k + 1) es rest,
  )

  -- so are the values together
  noted_below : (t : List TallyEntry) (xs : List Value) → Limited t → AllFit t → values_noted_for t id ≡ Some xs → length xs ≤ n
  noted_below [] xs h fit found = absurd cc
  noted_below (e ∷ es) xs h fit found = by (noted_below es xs h.1 fit.1) (int_eq e.id id) refl found
    where
      by : (values_noted_for es id ≡ Some xs → length xs ≤ n) → (c : Bool) → int_eq e.id id ≡ c
          → cond c (Some e.values) (values_noted_for es id) ≡ Some xs → length xs ≤ n
      by rest true q at =
          let same : e.values ≡ xs = cc in
          subst (λ (ys : List Value). length ys ≤ n) same (omega (arith, fit.0, h.0 q))
      by rest false q at = rest at

-- the values of a dictionary are no more than each of its index types counts
pub noted_counts : (fields : List Field) (ps : List (ℤ × Value)) (d : Dictionary) (xs : List Value) → Contains (of_fields fields) d
    → AllFit (note_all (empty_entries fields) ps) → values_noted_for (note_all (empty_entries fields) ps) d.id ≡ Some xs → length xs
    ≤ index_capacity d
noted_counts fields ps d xs named fit found =
    let low = least_counts (of_fields fields) d named in
    let limited = limited-order d.id (index_capacity d) (of_fields fields) low 0 (empty_entries fields) (are_of_schema fields).ordered in
    let kept = limited-note_all d.id (index_capacity d) (empty_entries fields) ps limited in
    noted_below d.id (index_capacity d) (note_all (empty_entries fields) ps) xs kept fit found

-- entries with the ids and limits of the fields that fit their limits
pub addressed : (fields : List Field) (es : List TallyEntry) → tally_bounds es ≡ tally_bounds (empty_entries fields) → AllFit es
    → AreAddressed fields es
addressed fields es bounds fit d named = by (values_noted_for es d.id) refl
  where
    by : (o : Option (List Value)) → values_noted_for es d.id ≡ o → IfSome o (λ values. length values ≤ index_capacity d)
    by None e = tt
    by (Some xs) e =
        let low = least_counts (of_fields fields) d named in
        let limited = limited-order d.id (index_capacity d) (of_fields fields) low 0 (empty_entries fields)
        (are_of_schema fields).ordered in
        noted_below d.id (index_capacity d) es xs (limited_same d.id (index_capacity d) es (empty_entries fields) bounds limited) fit e

ids_in : (es : List TallyEntry) → map (λ (p : ℤ × ℕ). p.0) (tally_bounds es) ≡ tally_ids es
ids_in [] = refl
ids_in (e ∷ es) = ap (λ l. e.id ∷ l) (ids_in es)

-- entries with the same ids and limits have the same ids
pub bounds_ids : (es fs : List TallyEntry) → tally_bounds es ≡ tally_bounds fs → tally_ids es ≡ tally_ids fs
bounds_ids es fs same = sym (ids_in es) ∙ ap (map (λ (p : ℤ × ℕ). p.0)) same ∙ ids_in fs

-- a dictionary that the fields name has its entry
pub has_entry : (fields : List Field) (d : Dictionary) → Contains (of_fields fields) d
    → IsSome (values_noted_for (empty_entries fields) d.id)
has_entry fields d named =
    let Has : Dictionary → Type 0 = λ x. IsSome (values_noted_for (empty_entries fields) x.id) in
    All-contains Has (of_fields fields) d (All-from_recursion Has (of_fields fields) (are_of_schema fields).all) named

-- each value that was noted of a dictionary that the fields name has a place
pub pair_placed : (fields : List Field) (ps : List (ℤ × Value)) (d : Dictionary) (v : Value) → Contains (of_fields fields) d
    → Contains ps (d.id, v) → IsSome (place_of_value (note_all (empty_entries fields) ps) d.id v)
pair_placed fields ps d v named there =
    let Has : Dictionary → Type 0 = λ x. IsSome (values_noted_for (empty_entries fields) x.id) in
    places_all (empty_entries fields) ps d.id v there
    (All-contains Has (of_fields fields) d (All-from_recursion Has (of_fields fields) (are_of_schema fields).all) named)
