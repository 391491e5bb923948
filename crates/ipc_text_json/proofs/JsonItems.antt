-- The length of a list of JSON values.
use Rattle.std.proofs.Common.{◌≡◌, ◌∙◌, ◌<◌, ◌+◌, ℕ, List, [], ◌∷◌, map, arith, length, length-drop, take, ◌-◌, drop, drop-cons, get_or}
use Rattle.std.proofs.Common.{add-one, refl, sym, ap}
use Rattle.std.proofs.lemmas.List.{take_all}
use Rattle.serde_json.specs.Data.{Data, Items, item, no_items, Members, member, array, object}
use Rattle.serde_json.specs.Events.{items_len}
use Rattle.serde_json.specs.View.{view, items_view}
use Rattle.serde_json.specs.View.{items_of}
use Rattle.serde_json.specs.declared.value.Value.{Value}
use Rattle.serde_json.proofs.Views.{items_len-items_view}

-- a list has as many values as its view
pub counted : (vs : List Value) (js : Items) → items_view vs ≡ js → length vs ≡ items_len js
counted vs js e = sym (items_len-items_view vs) ∙ ap items_len e

-- one
pub counted_one : (vs : List Value) (a : Data) → items_view vs ≡ item a no_items → length vs ≡ 1
counted_one vs a e = counted vs (item a no_items) e

-- two
pub counted_two : (vs : List Value) (a b : Data) → items_view vs ≡ item a (item b no_items) → length vs ≡ 2
counted_two vs a b e = counted vs (item a (item b no_items)) e

-- three
pub counted_three : (vs : List Value) (a b c : Data) → items_view vs ≡ item a (item b (item c no_items)) → length vs ≡ 3
counted_three vs a b c e = counted vs (item a (item b (item c no_items))) e

values_from : (vs : List Value) (i : ℕ) (v : Value) → i < length vs → v ≡ get_or vs i v → drop i vs ≡ v ∷ drop (i + 1) vs
values_from vs i v h e = rw (drop-cons vs i v) (rw (← e, add-one) refl)

-- the values from a place on
pub views_from : (vs : List Value) (i : ℕ) (v : Value) → i < length vs → v ≡ get_or vs i v
    → items_view (drop i vs) ≡ item (view v) (items_view (drop (i + 1) vs))
views_from vs i v h e = ap items_view (values_from vs i v h e)

-- two arrays are the same where their items are
pub same_items : {a b : Items} → array a ≡ array b → a ≡ b
same_items e = cc

-- two objects are the same where their members are
pub same_members : {a b : Members} → object a ≡ object b → a ≡ b
same_members e = cc

-- behind the first member stand the same
pub rest_of : {k l : List ℕ} {d e : Data} {a b : Members} → member k d a ≡ member l e b → a ≡ b
rest_of h = cc

-- the first value, and the rest
pub front_view : (vs : List Value) (v : Value) → 0 < length vs → v ≡ get_or vs 0 v
    → map view vs ≡ view v ∷ map view (take (length vs - 1) (drop 1 vs))
front_view [] v h e = absurd (omega arith)
front_view (x ∷ xs) v h e =
    ap (map view) (values_from (x ∷ xs) 0 v h e)
    ∙ ap (λ l. view v ∷ map view l) (sym (take_all (length (x ∷ xs) - 1) (drop 1 (x ∷ xs)) (omega (arith, length-drop 1 (x ∷ xs)))))

-- the first member is the same
pub first_of_members : {k l : List ℕ} {d e : Data} {a b : Members} → member k d a ≡ member l e b → d ≡ e
first_of_members h = cc

-- two lists of values are the same where their items are
pub same_list : (xs ys : List Data) → items_of xs ≡ items_of ys → xs ≡ ys
same_list [] [] e = refl
same_list [] (y ∷ ys) e = absurd cc
same_list (x ∷ xs) [] e = absurd cc
same_list (x ∷ xs) (y ∷ ys) e =
    let p : x ≡ y = cc in let q : items_of xs ≡ items_of ys = cc in ap (λ z. z ∷ xs) p ∙ ap (λ zs. y ∷ zs) (same_list xs ys q)
