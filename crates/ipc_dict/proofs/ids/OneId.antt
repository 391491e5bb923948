-- What a tally holds of one dictionary.
use Rattle.std.proofs.Common.{◌≡◌, Bool, true, false, cond, ℤ, List, [], ◌∷◌, Option, Some, None, refl, sym, ap, ◌∙◌, int_eq, true≢false}
use Rattle.std.specs.Option.{option_map}
use Rattle.std.proofs.lemmas.Bool.Decides.{Decides-int_eq}
use Rattle.ipc_model.specs.declared.value.Value.{Value}
use Rattle.ipc_dict.specs.declared.entry.TallyEntry.{TallyEntry}
use Rattle.ipc_dict.specs.Distinct.{with_distinct, with_all_distinct}
use Rattle.ipc_dict.specs.Noting.{note_entry, note_one, of_id, values_noted_for, HoldsDistinct}

plain : (o : Option (List Value)) → o ≡ option_map (λ xs. xs) o
plain None = refl
plain (Some xs) = refl

other : (a k id : ℤ) → int_eq a k ≡ false → int_eq a id ≡ true → int_eq k id ≡ false
other a k id p q = by (int_eq k id) refl
  where
    by : (b : Bool) → int_eq k id ≡ b → b ≡ false
    by false e = refl
    by true e = absurd (true≢false (sym ((Decides-int_eq a k).1 ((Decides-int_eq a id).0 q ∙ sym ((Decides-int_eq k id).0 e))) ∙ p))

-- one more value of a dictionary
pub one-note : (t : List TallyEntry) (k : ℤ) (v : Value) (id : ℤ)
    → values_noted_for (note_one t k v) id ≡ option_map (λ xs. cond (int_eq k id) (with_distinct xs v) xs) (values_noted_for t id)
one-note [] k v id = refl
one-note (e ∷ es) k v id = by (one-note es k v id) (int_eq e.id k) refl (int_eq e.id id) refl
  where
    by : values_noted_for (note_one es k v) id ≡ option_map (λ xs. cond (int_eq k id) (with_distinct xs v) xs) (values_noted_for es id)
        → (b : Bool)
        → int_eq e.id k ≡ b → (c : Bool) → int_eq e.id id ≡ c
        → values_noted_for (cond b (note_entry v e ∷ es) (e ∷ note_one es k v)) id
        ≡ option_map (λ xs. cond (int_eq k id) (with_distinct xs v) xs) (cond c (Some e.values) (values_noted_for es id))
    by rest true p true q =
        let here : int_eq k id ≡ true = ap (λ z. int_eq z id) (sym ((Decides-int_eq e.id k).0 p)) ∙ q in
        ap (λ c. cond c (Some (with_distinct e.values v)) (values_noted_for es id)) q
        ∙ sym (ap (λ b. Some (cond b (with_distinct e.values v) e.values)) here)
    by rest true p false q =
        let here : int_eq k id ≡ false = ap (λ z. int_eq z id) (sym ((Decides-int_eq e.id k).0 p)) ∙ q in
        ap (λ c. cond c (Some (with_distinct e.values v)) (values_noted_for es id)) q ∙ plain (values_noted_for es id)
        ∙ sym (ap (λ b. option_map (λ xs. cond b (with_distinct xs v) xs) (values_noted_for es id)) here)
    by rest false p true q =
        ap (λ c. cond c (Some e.values) (values_noted_for (note_one es k v) id)) q
        ∙ sym (ap (λ b. Some (cond b (with_distinct e.values v) e.values)) (other e.id k id p q))
    by rest false p false q = ap (λ c. cond c (Some e.values) (values_noted_for (note_one es k v) id)) q ∙ rest

pub holds_distinct : HoldsDistinct
holds_distinct t [] id = plain (values_noted_for t id)
holds_distinct t (p ∷ ps) id =
    holds_distinct (note_one t p.0 p.1) ps id ∙ ap (option_map (λ xs. with_all_distinct xs (of_id id ps))) (one-note t p.0 p.1 id)
    ∙ by (int_eq p.0 id) (values_noted_for t id)
  where
    by : (b : Bool) (o : Option (List Value))
        → option_map (λ xs. with_all_distinct xs (of_id id ps)) (option_map (λ xs. cond b (with_distinct xs p.1) xs) o)
        ≡ option_map (λ xs. with_all_distinct xs (cond b (p.1 ∷ of_id id ps) (of_id id ps))) o
    by true None = refl
    by false None = refl
    by true (Some xs) = refl
    by false (Some xs) = refl
