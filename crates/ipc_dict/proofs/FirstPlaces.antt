-- Where a value of several that are all distinct stands.
use Rattle.std.proofs.Common.{◌≡◌, ℕ, ◌<◌, Bool, true, false, cond, zero, suc, List, [], ◌∷◌, ◌++◌, ◌||◌}
use Rattle.std.proofs.Common.{length, get_or, Some, refl, sym, ap, ◌∙◌, arith, true≢false}
use Rattle.std.specs.List.{IsDistinct, list_any, position_or_len}
use Rattle.std.proofs.lemmas.List.Quantifiers.{position-Some}
use Rattle.std.proofs.lemmas.List.Sums.{position_or_len_is}
use Rattle.std.proofs.lemmas.Map.Keys.{apart_from_distinct}
use Rattle.ipc_model.specs.contracts.value.ValueEq.TheImpl.Laws.{laws-law}
use Rattle.ipc_model.specs.declared.value.Value.{Value}
use Rattle.ipc_model.proofs.AlikeValues.{same_value}
use Rattle.ipc_dict.specs.Distinct.{same, with_distinct, first_index}

-- the places before that of a value have others
others_before : (v : Value) (xs : List Value) (i k : ℕ) → IsDistinct same xs → i < length xs → get_or xs i v ≡ v → k < i
    → same v (get_or xs k v) ≡ false
others_before v xs i k apart within at before = by (same v (get_or xs k v)) refl
  where
    by : (b : Bool) → same v (get_or xs k v) ≡ b → same v (get_or xs k v) ≡ false
    by false e = e
    by true e =
        let here : get_or xs k v ≡ v = sym (same_value v (get_or xs k v) e) in
        let not : same (get_or xs k v) (get_or xs i v) ≡ false = apart_from_distinct same xs k i v apart before within in
        let own : same v v ≡ false = ap (λ w. same w v) (sym here) ∙ ap (same (get_or xs k v)) (sym at) ∙ not in
        absurd (true≢false (sym (laws-law.refl v) ∙ own))

-- a value of distinct ones has the place at which it stands
pub first_place : (v : Value) (xs : List Value) (i : ℕ) → IsDistinct same xs → i < length xs → get_or xs i v ≡ v → first_index v xs ≡ Some i
first_place v xs i apart within at =
    let first : position_or_len (same v) xs ≡ i =
    position_or_len_is (same v) xs i v (omega (arith, within)) (λ k before. others_before v xs i k apart within at before)
    (λ l. ap (same v) at ∙ laws-law.refl v) in
    grind (arith, first, within)

any_at : (p : Value → Bool) (xs : List Value) (i : ℕ) (d : Value) → i < length xs → p (get_or xs i d) ≡ true → list_any p xs ≡ true
any_at p [] i d h at = absurd (omega arith)
any_at p (x ∷ xs) zero d h at = ap (λ b. b || list_any p xs) at
any_at p (x ∷ xs) (suc i) d h at =
    let rest = any_at p xs i d (omega arith) at in
    elim (p x) as (λ b. (b || list_any p xs) ≡ true) [ true ↦ refl | false ↦ rest ]

-- a value that has a place changes nothing once it is seen
pub known_seen : (v : Value) (xs : List Value) (i : ℕ) → first_index v xs ≡ Some i → with_distinct xs v ≡ xs
known_seen v xs i found =
    let p = position-Some (same v) xs i v found in
    ap (λ b. cond b xs (xs ++ v ∷ [])) (any_at (same v) xs i v p.0 p.1)
