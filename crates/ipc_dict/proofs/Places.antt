-- Where values stand in a tally.
use Rattle.std.proofs.Common.{◌≡◌, ℕ, zero, suc, ◌<◌, ◌+◌, Bool, true, false, not, cond, ℤ, List, [], ◌∷◌, ◌++◌, length, get_or}
use Rattle.std.proofs.Common.{Option, Some, None, refl, sym, ap, subst, ◌∙◌, arith, int_eq, true≢false, ◌||◌}
use Rattle.std.specs.Option.{IsSome, option_map}
use Rattle.std.specs.List.{list_any, position, position_or_len}
use Rattle.std.proofs.lemmas.List.{length-append}
use Rattle.std.proofs.lemmas.Map.Views.{Contains-from_any}
use Rattle.ipc_model.specs.contracts.value.ValueEq.TheImpl.Laws.{laws-law}
use Rattle.ipc_model.specs.declared.value.Value.{Value}
use Rattle.ipc_model.proofs.AlikeValues.{same_value}
use Rattle.ipc_dict.specs.declared.entry.TallyEntry.{TallyEntry}
use Rattle.ipc_dict.specs.Distinct.{same, is_among, with_distinct, first_index}
use Rattle.ipc_dict.specs.Noting.{note_entry, note_one, note_all, values_noted_for, place_of_value, KeepsPlaces, PlacesAll}
use Rattle.ipc_dict.proofs.Finds.{has_place}
use Rattle.ipc_dict.proofs.ids.OneId.{one-note}

module _ (id : ℤ) (v : Value) where
  -- the entry that is found has the place
  pub place-at : (t : List TallyEntry) (i : ℕ) (x : TallyEntry) → i < length t → int_eq (get_or t i x).id id ≡ true
      → ((k : ℕ) → k < i → int_eq (get_or t k x).id id ≡ false) → x ≡ get_or t i x → first_index v x.values ≡ place_of_value t id v
  place-at [] i x h at before same = absurd (omega arith)
  place-at (e ∷ es) zero x h at before same =
      ap (λ (y : TallyEntry). first_index v y.values) same ∙ sym (ap (λ b. cond b (first_index v e.values) (place_of_value es id v)) at)
  place-at (e ∷ es) (suc i) x h at before same =
      place-at es i x (omega arith) at (λ k l. before (suc k) (omega arith)) same
      ∙ sym (ap (λ b. cond b (first_index v e.values) (place_of_value es id v)) (before zero (omega arith)))

  pub place-absent : (t : List TallyEntry) → ((k : ℕ) (d : TallyEntry) → k < length t → int_eq (get_or t k d).id id ≡ false)
      → place_of_value t id v ≡ None
  place-absent [] none = refl
  place-absent (e ∷ es) none =
      ap (λ b. cond b (first_index v e.values) (place_of_value es id v)) (none zero e (omega arith))
      ∙ place-absent es (λ k d l. none (suc k) d (omega arith))

-- ---- a place is kept

first-append : {X : Type 0} (p : X → Bool) (xs ys : List X) → position_or_len p xs < length xs
    → position_or_len p (xs ++ ys) ≡ position_or_len p xs
first-append p [] ys h = absurd (omega (arith, h))
first-append p (x ∷ xs) ys h = by (first-append p xs ys) (p x) h
  where
    by : (position_or_len p xs < length xs → position_or_len p (xs ++ ys) ≡ position_or_len p xs) → (b : Bool)
        → cond (not b) (1 + position_or_len p xs) 0 < suc (length xs)
        → cond (not b) (1 + position_or_len p (xs ++ ys)) 0 ≡ cond (not b) (1 + position_or_len p xs) 0
    by rest true h = refl
    by rest false h = ap (λ n. 1 + n) (rest (omega (arith, h)))

pub position-append : {X : Type 0} (p : X → Bool) (xs ys : List X) (i : ℕ) → position p xs ≡ Some i → position p (xs ++ ys) ≡ Some i
position-append p xs ys i found = grind (arith, found, first-append p xs ys, length-append xs ys)

first-end : {X : Type 0} (p : X → Bool) (xs : List X) (y : X) → list_any p xs ≡ false → p y ≡ true
    → position_or_len p (xs ++ y ∷ []) ≡ length xs
first-end p [] y none here = ap (λ b. cond (not b) 1 0) here
first-end p (x ∷ xs) y none here = by (λ h. first-end p xs y h here) (p x) none
  where
    by : (list_any p xs ≡ false → position_or_len p (xs ++ y ∷ []) ≡ length xs) → (b : Bool) → (b || list_any p xs) ≡ false
        → cond (not b) (1 + position_or_len p (xs ++ y ∷ [])) 0 ≡ suc (length xs)
    by rest true h = absurd (true≢false h)
    by rest false h = omega (arith, rest h)

-- where none before passes, the last does
pub position-end : {X : Type 0} (p : X → Bool) (xs : List X) (y : X) → list_any p xs ≡ false → p y ≡ true
    → position p (xs ++ y ∷ []) ≡ Some (length xs)
position-end p xs y none here = grind (arith, first-end p xs y none here, length-append xs (y ∷ []))

place-seen : (v : Value) (xs : List Value) (w : Value) (i : ℕ) → first_index v xs ≡ Some i → first_index v (with_distinct xs w) ≡ Some i
place-seen v xs w i found =
    elim (is_among xs w) as (λ b. first_index v (cond b xs (xs ++ w ∷ [])) ≡ Some i)
    [ true ↦ found | false ↦ position-append (same v) xs (w ∷ []) i found ]

place-note_one : (t : List TallyEntry) (k : ℤ) (w : Value) (id : ℤ) (v : Value) (i : ℕ) → place_of_value t id v ≡ Some i
    → place_of_value (note_one t k w) id v ≡ Some i
place-note_one [] k w id v i found = found
place-note_one (e ∷ es) k w id v i found = by (place-note_one es k w id v i) (int_eq e.id k) (int_eq e.id id) refl found
  where
    by : (place_of_value es id v ≡ Some i → place_of_value (note_one es k w) id v ≡ Some i) → (b c : Bool) → int_eq e.id id ≡ c
        → cond c (first_index v e.values) (place_of_value es id v) ≡ Some i
        → place_of_value (cond b (note_entry w e ∷ es) (e ∷ note_one es k w)) id v ≡ Some i
    by rest true true q h = ap (λ c. cond c (first_index v (with_distinct e.values w)) (place_of_value es id v)) q
        ∙ place-seen v e.values w i h
    by rest true false q h = ap (λ c. cond c (first_index v (with_distinct e.values w)) (place_of_value es id v)) q ∙ h
    by rest false true q h = ap (λ c. cond c (first_index v e.values) (place_of_value (note_one es k w) id v)) q ∙ h
    by rest false false q h = ap (λ c. cond c (first_index v e.values) (place_of_value (note_one es k w) id v)) q ∙ rest h

pub keeps_places : KeepsPlaces
keeps_places t [] id v i found = found
keeps_places t (p ∷ ps) id v i found = keeps_places (note_one t p.0 p.1) ps id v i (place-note_one t p.0 p.1 id v i found)

-- ---- each value that was noted has a place

place-own : (v : Value) (xs : List Value) → IsSome (first_index v (with_distinct xs v))
place-own v xs = by (is_among xs v) refl
  where
    by : (b : Bool) → is_among xs v ≡ b → IsSome (first_index v (cond b xs (xs ++ v ∷ [])))
    by true e = has_place v xs (Contains-from_any same_value v xs e)
    by false e = subst IsSome (sym (position-end (same v) xs v e (laws-law.refl v))) refl

own-note_one : (t : List TallyEntry) (id : ℤ) (v : Value) → IsSome (values_noted_for t id) → IsSome (place_of_value (note_one t id v) id v)
own-note_one [] id v h = absurd (true≢false (sym h))
own-note_one (e ∷ es) id v h = by (own-note_one es id v) (int_eq e.id id) refl h
  where
    by : (IsSome (values_noted_for es id) → IsSome (place_of_value (note_one es id v) id v)) → (b : Bool) → int_eq e.id id ≡ b
        → IsSome (cond b (Some e.values) (values_noted_for es id))
        → IsSome (place_of_value (cond b (note_entry v e ∷ es) (e ∷ note_one es id v)) id v)
    by rest true q h = subst (λ c. IsSome (cond c (first_index v (with_distinct e.values v)) (place_of_value es id v))) (sym q)
        (place-own v e.values)
    by rest false q h = subst (λ c. IsSome (cond c (first_index v e.values) (place_of_value (note_one es id v) id v))) (sym q) (rest h)

some-map : {X Y : Type 0} (f : X → Y) (o : Option X) → IsSome o → IsSome (option_map f o)
some-map f None h = absurd (true≢false (sym h))
some-map f (Some x) h = refl

some-kept : (t : List TallyEntry) (ps : List (ℤ × Value)) (id : ℤ) (v : Value) → IsSome (place_of_value t id v)
    → IsSome (place_of_value (note_all t ps) id v)
some-kept t ps id v h = by (place_of_value t id v) refl h
  where
    by : (o : Option ℕ) → place_of_value t id v ≡ o → IsSome o → IsSome (place_of_value (note_all t ps) id v)
    by None e s = absurd (true≢false (sym s))
    by (Some i) e s = subst IsSome (sym (keeps_places t ps id v i e)) refl

pub places_all : PlacesAll
places_all t [] id v there h = absurd (omega (arith, there.1))
places_all t (p ∷ ps) id v (zero, low, at) h =
    some-kept (note_one t p.0 p.1) ps id v
    (subst (λ (q : ℤ × Value). IsSome (place_of_value (note_one t q.0 q.1) id v)) (sym at) (own-note_one t id v h))
places_all t (p ∷ ps) id v (suc k, low, at) h =
    places_all (note_one t p.0 p.1) ps id v (k, omega (arith, low), at)
    (subst IsSome (sym (one-note t p.0 p.1 id)) (some-map (λ xs. cond (int_eq p.0 id) (with_distinct xs p.1) xs) (values_noted_for t id) h))
