-- A plan's indices find their values.
use Rattle.std.proofs.Common.{◌≡◌, ℕ, zero, suc, ◌||◌, ◌<◌, Bool, true, false, List, [], ◌∷◌, map, length, get_or, slice_get, Option, Some}
use Rattle.std.proofs.Common.{None, refl, sym, ap, ◌∙◌, arith}
use Rattle.std.specs.Option.{option_map, is_some, IsSome}
use Rattle.std.specs.List.{list_any, Contains}
use Rattle.std.specs.Map.{keys_of}
use Rattle.std.proofs.lemmas.Map.Made.{is_some-lookup}
use Rattle.indexmap.proofs.MapLemmas.{some_index}
use Rattle.ipc_model.specs.contracts.value.ValueEq.TheImpl.Laws.{laws-law}
use Rattle.std.proofs.lemmas.List.Quantifiers.{position-Some}
use Rattle.std.proofs.lemmas.Option.{slice_get-get_or, slice_get-map}
use Rattle.ipc_model.specs.declared.value.Value.{Value}
use Rattle.ipc_model.proofs.AlikeValues.{same_value}
use Rattle.ipc_dict.specs.Distinct.{same, first_index}
use Rattle.ipc_encode.specs.Numbers.{number_or}
use Rattle.ipc_dict.specs.Planning.{IsSettled, number_at, kept_number, values_after}

-- a value stands where its place says
pub at_place : (v : Value) (xs : List Value) (i : ℕ) → first_index v xs ≡ Some i → slice_get xs i ≡ Some v
at_place v xs i found =
    let p = position-Some (same v) xs i v found in
    slice_get-get_or xs i v p.0 ∙ ap (λ w. Some w) (sym (same_value v (get_or xs i v) p.1))

-- an index of the plan finds its value among what is sent then
pub finds : (sent : Option (List Value)) (values : List Value) (numbers : Option (List ℕ)) (v : Value) (i : ℕ)
    → IsSettled sent values numbers → number_at (first_index v values) numbers ≡ Some i
    → (now : List Value) × ((values_after sent values numbers ≡ Some now) × (slice_get now i ≡ Some v))
finds sent values numbers v i settled found = by (first_index v values) refl sent numbers settled found
  where
    by : (p : Option ℕ) → first_index v values ≡ p → (sent : Option (List Value)) (numbers : Option (List ℕ))
        → IsSettled sent values numbers
        → number_at p numbers ≡ Some i → (now : List Value) × ((values_after sent values numbers ≡ Some now) × (slice_get now i ≡ Some v))
    by None e sent numbers settled h = absurd cc
    by (Some k) e sent None settled h = (values, (refl, at_place v values i (e ∙ h)))
    by (Some k) e None (Some to) settled h = absurd settled
    by (Some k) e (Some known) (Some to) settled h =
        let here : slice_get (map (λ w. first_index w known) values) k ≡ Some (first_index v known) =
        slice_get-map (λ w. first_index w known) values k ∙ ap (option_map (λ w. first_index w known)) (at_place v values k e) in
        let there : slice_get (map (λ n. Some n) to) k ≡ Some (Some i) =
        slice_get-map (λ n. Some n) to k ∙ ap (option_map (λ n. Some n)) h in
        let q : Some (first_index v known) ≡ Some (Some i) = sym here ∙ ap (λ l. slice_get l k) settled ∙ there in
        let same_place : first_index v known ≡ Some i = cc in
        (known, (refl, at_place v known i same_place))

-- ---- a value of the batch has an index

seen_at : (v : Value) (xs : List Value) (k : ℕ) → k < length xs → get_or xs k v ≡ v → list_any (same v) xs ≡ true
seen_at v [] k h at = absurd (omega arith)
seen_at v (x ∷ xs) zero h at = ap (λ b. b || list_any (same v) xs) (ap (same v) at ∙ laws-law.refl v)
seen_at v (x ∷ xs) (suc k) h at =
    let rest = seen_at v xs k (omega arith) at in
    elim (same v x) as (λ b. (b || list_any (same v) xs) ≡ true) [ true ↦ refl | false ↦ rest ]

keys-alone : (xs : List Value) → keys_of (map (λ (x : Value). (x, true)) xs) ≡ xs
keys-alone [] = refl
keys-alone (x ∷ xs) = ap (λ l. x ∷ l) (keys-alone xs)

pub has_place : (v : Value) (xs : List Value) → Contains xs v → is_some (first_index v xs) ≡ true
has_place v xs h =
    let es : List (Value × Bool) = map (λ (x : Value). (x, true)) xs in
    ap (λ l. is_some (first_index v l)) (sym (keys-alone xs)) ∙ some_index (same v) es ∙ is_some-lookup (same v) es
    ∙ ap (list_any (same v)) (keys-alone xs) ∙ seen_at v xs h.0 h.1 h.2

there_is : (p : Option ℕ) (o : Option ℕ) → Some p ≡ option_map (λ n. Some n) o → IsSome o
there_is p None h = absurd cc
there_is p (Some n) h = refl

pub knows : (sent : Option (List Value)) (values : List Value) (numbers : Option (List ℕ)) (v : Value) → IsSettled sent values numbers
    → Contains values v → IsSome (number_at (first_index v values) numbers)
knows sent values numbers v settled h = by (first_index v values) refl (has_place v values h) sent numbers settled
  where
    by : (p : Option ℕ) → first_index v values ≡ p → is_some p ≡ true → (sent : Option (List Value)) (numbers : Option (List ℕ))
        → IsSettled sent values numbers → IsSome (number_at p numbers)
    by None e s sent numbers settled = absurd cc
    by (Some k) e s sent None settled = refl
    by (Some k) e s None (Some to) settled = absurd settled
    by (Some k) e s (Some known) (Some to) settled =
        let here : slice_get (map (λ w. first_index w known) values) k ≡ Some (first_index v known) =
        slice_get-map (λ w. first_index w known) values k ∙ ap (option_map (λ w. first_index w known)) (at_place v values k e) in
        let there : slice_get (map (λ w. first_index w known) values) k ≡ option_map (λ n. Some n) (slice_get to k) =
        ap (λ l. slice_get l k) settled ∙ slice_get-map (λ n. Some n) to k in
        there_is (first_index v known) (slice_get to k) (sym here ∙ there)

-- ---- the plan's number for a place

same_number : (o : Option ℕ) (i : ℕ) → IsSome o → o ≡ Some (number_or o i)
same_number None i h = absurd cc
same_number (Some n) i h = refl

-- the index of a value is the plan's number for its place
pub renumbered : (sent : Option (List Value)) (values : List Value) (numbers : Option (List ℕ)) (v : Value) (i : ℕ)
    → IsSettled sent values numbers → first_index v values ≡ Some i
    → number_at (first_index v values) numbers ≡ Some (number_or (kept_number numbers i) i)
renumbered sent values numbers v i settled e = ap (λ p. number_at p numbers) e ∙ by sent numbers settled
  where
    by : (sent : Option (List Value)) (numbers : Option (List ℕ)) → IsSettled sent values numbers
        → number_at (Some i) numbers ≡ Some (number_or (kept_number numbers i) i)
    by sent None settled = refl
    by None (Some to) settled = absurd settled
    by (Some known) (Some to) settled =
        let here : slice_get (map (λ w. first_index w known) values) i ≡ Some (first_index v known) =
        slice_get-map (λ w. first_index w known) values i ∙ ap (option_map (λ w. first_index w known)) (at_place v values i e) in
        let there : slice_get (map (λ w. first_index w known) values) i ≡ option_map (λ n. Some n) (slice_get to i) =
        ap (λ l. slice_get l i) settled ∙ slice_get-map (λ n. Some n) to i in
        same_number (slice_get to i) i (there_is (first_index v known) (slice_get to i) (sym here ∙ there))
