-- Of all dictionaries of a plan.
use Rattle.std.proofs.Common.{◌≡◌, ℕ, zero, suc, ◌<◌, ◌+◌, Bool, true, false, cond, ℤ, List, [], ◌∷◌, ◌++◌, length, get_or, take, Option}
use Rattle.std.proofs.Common.{Some, None, refl, sym, ap, subst, ◌∙◌, arith, int_eq, slice_get, take-suc, add-one}
use Rattle.ipc_model.specs.declared.value.Value.{Value}
use Rattle.ipc_dict.specs.declared.entry.TallyEntry.{TallyEntry}
use Rattle.ipc_dict.specs.declared.kept.KeptEntry.{KeptEntry}
use Rattle.ipc_dict.specs.Distinct.{first_index}
use Rattle.ipc_dict.specs.Planning.{IsSettled, AllSettled, number_at, kept_number, number, values_after, index, after_all}
use Rattle.ipc_dict.specs.Planning.{sent_for, FindsAll, FindsNoted, KnowsAll}
use Rattle.ipc_dict.specs.Noting.{values_noted_for, place_of_value}
use Rattle.ipc_encode.specs.Numbers.{number_or}
use Rattle.std.specs.List.{Contains}
use Rattle.std.specs.Option.{IsSome}
use Rattle.ipc_dict.proofs.Finds.{finds, knows, renumbered}
use Rattle.ipc_dict.proofs.ids.Ids.{SameIds}

-- one more dictionary is settled
pub settled-push : (ss : List KeptEntry) (ns : List TallyEntry) (os : List (Option (List ℕ))) (s : KeptEntry) (n : TallyEntry)
    (o : Option (List ℕ)) → AllSettled ss ns os → IsSettled s.values n.values o → AllSettled (ss ++ s ∷ []) (ns ++ n ∷ []) (os ++ o ∷ [])
settled-push [] [] [] s n o h k = (k, tt)
settled-push [] [] (p ∷ os) s n o h k = absurd h
settled-push [] (m ∷ ns) os s n o h k = absurd h
settled-push (r ∷ ss) [] os s n o h k = absurd h
settled-push (r ∷ ss) (m ∷ ns) [] s n o h k = absurd h
settled-push (r ∷ ss) (m ∷ ns) (p ∷ os) s n o h k = (h.0, settled-push ss ns os s n o h.1 k)

pub settled-more : (ss : List KeptEntry) (ns : List TallyEntry) (os : List (Option (List ℕ))) (i : ℕ) (s : KeptEntry) (n : TallyEntry)
    (o : Option (List ℕ)) → i < length ss → i < length ns → s ≡ get_or ss i s → n ≡ get_or ns i n → AllSettled (take i ss) (take i ns) os
    → IsSettled s.values n.values o → AllSettled (take (i + 1) ss) (take (i + 1) ns) (os ++ o ∷ [])
settled-more ss ns os i s n o h k ats atn all one =
    rw (add-one, take-suc ss i s h, take-suc ns i n k, ← ats, ← atn) (settled-push (take i ss) (take i ns) os s n o all one)

pub settled-length : (ss : List KeptEntry) (ns : List TallyEntry) (os : List (Option (List ℕ))) → AllSettled ss ns os
    → length os ≡ length ns
settled-length [] [] [] h = refl
settled-length [] [] (p ∷ os) h = absurd h
settled-length [] (m ∷ ns) os h = absurd h
settled-length (r ∷ ss) [] os h = absurd h
settled-length (r ∷ ss) (m ∷ ns) [] h = absurd h
settled-length (r ∷ ss) (m ∷ ns) (p ∷ os) h = omega (arith, settled-length ss ns os h.1)

module _ (id : ℤ) (v : Value) where
  pub index-at : (ns : List TallyEntry) (os : List (Option (List ℕ))) (i : ℕ) (n : TallyEntry) (o : Option (List ℕ)) → length os ≡ length ns
      → i < length ns → int_eq (get_or ns i n).id id ≡ true → ((k : ℕ) → k < i → int_eq (get_or ns k n).id id ≡ false) → n ≡ get_or ns i n
      → o ≡ get_or os i o
      → number_at (first_index v n.values) o ≡ index ns os id v
  index-at [] os i n o same h at before nis ois = absurd (omega arith)
  index-at (m ∷ ns) [] i n o same h at before nis ois = absurd (omega arith)
  index-at (m ∷ ns) (p ∷ os) zero n o same h at before nis ois =
      (λ j. number_at (first_index v (nis j).values) (ois j)) ∙ sym (ap (λ b. cond b (number_at (first_index v m.values) p)
      (index ns os id v)) at)
  index-at (m ∷ ns) (p ∷ os) (suc i) n o same h at before nis ois =
      index-at ns os i n o (omega arith) (omega arith) at (λ k l. before (suc k) (omega arith)) nis ois
      ∙ sym (ap (λ b. cond b (number_at (first_index v m.values) p) (index ns os id v)) (before zero (omega arith)))

  pub index-absent : (ns : List TallyEntry) (os : List (Option (List ℕ)))
      → ((k : ℕ) (d : TallyEntry) → k < length ns → int_eq (get_or ns k d).id id ≡ false) → index ns os id v ≡ None
  index-absent [] os none = refl
  index-absent (m ∷ ns) [] none = refl
  index-absent (m ∷ ns) (p ∷ os) none =
      ap (λ b. cond b (number_at (first_index v m.values) p) (index ns os id v)) (none zero m (omega arith))
      ∙ index-absent ns os (λ k d l. none (suc k) d (omega arith))

module _ (id : ℤ) (from : ℕ) where
  pub number-at : (ns : List TallyEntry) (os : List (Option (List ℕ))) (i : ℕ) (n : TallyEntry) (o : Option (List ℕ))
      → length os ≡ length ns → i < length ns → int_eq (get_or ns i n).id id ≡ true
      → ((k : ℕ) → k < i → int_eq (get_or ns k n).id id ≡ false) → o ≡ get_or os i o
      → kept_number o from ≡ number ns os id from
  number-at [] os i n o same h at before ois = absurd (omega arith)
  number-at (m ∷ ns) [] i n o same h at before ois = absurd (omega arith)
  number-at (m ∷ ns) (p ∷ os) zero n o same h at before ois =
      ap (λ q. kept_number q from) ois ∙ sym (ap (λ b. cond b (kept_number p from) (number ns os id from)) at)
  number-at (m ∷ ns) (p ∷ os) (suc i) n o same h at before ois =
      number-at ns os i n o (omega arith) (omega arith) at (λ k l. before (suc k) (omega arith)) ois
      ∙ sym (ap (λ b. cond b (kept_number p from) (number ns os id from)) (before zero (omega arith)))

  pub number-absent : (ns : List TallyEntry) (os : List (Option (List ℕ)))
      → ((k : ℕ) (d : TallyEntry) → k < length ns → int_eq (get_or ns k d).id id ≡ false) → number ns os id from ≡ None
  number-absent [] os none = refl
  number-absent (m ∷ ns) [] none = refl
  number-absent (m ∷ ns) (p ∷ os) none =
      ap (λ b. cond b (kept_number p from) (number ns os id from)) (none zero m (omega arith))
      ∙ number-absent ns os (λ k d l. none (suc k) d (omega arith))

pub finds_all : (ss : List KeptEntry) (ns : List TallyEntry) (os : List (Option (List ℕ))) → SameIds ss ns → AllSettled ss ns os
    → FindsAll ss ns os
finds_all [] [] os ids h id v i found = absurd cc
finds_all [] (n ∷ ns) os ids h id v i found = absurd ids
finds_all (s ∷ ss) [] os ids h id v i found = absurd ids
finds_all (s ∷ ss) (n ∷ ns) [] ids h id v i found = absurd h
finds_all (s ∷ ss) (n ∷ ns) (o ∷ os) ids h id v i found = by (finds_all ss ns os ids.1 h.1 id v i) (int_eq n.id id) refl
  where
    by : (index ns os id v ≡ Some i → (now : List Value) × ((sent_for (after_all ss ns os) id ≡ Some now) × (slice_get now i ≡ Some v)))
        → (b : Bool) → int_eq n.id id ≡ b
        → (now : List Value) × ((sent_for (after_all (s ∷ ss) (n ∷ ns) (o ∷ os)) id ≡ Some now) × (slice_get now i ≡ Some v))
    by rest true e =
        let here : int_eq s.id id ≡ true = ap (λ z. int_eq z id) ids.0 ∙ e in
        let found2 : number_at (first_index v n.values) o ≡ Some i =
        sym (ap (λ b. cond b (number_at (first_index v n.values) o) (index ns os id v)) e) ∙ found in
        let r = finds s.values n.values o v i h.0 found2 in
        (r.0, (ap (λ b. cond b (values_after s.values n.values o) (sent_for (after_all ss ns os) id)) here ∙ r.1.0, r.1.1))
    by rest false e =
        let here : int_eq s.id id ≡ false = ap (λ z. int_eq z id) ids.0 ∙ e in
        let found2 : index ns os id v ≡ Some i = sym (ap (λ b. cond b (number_at (first_index v n.values) o) (index ns os id v)) e)
        ∙ found in
        let r = rest found2 in
        (r.0, (ap (λ b. cond b (values_after s.values n.values o) (sent_for (after_all ss ns os) id)) here ∙ r.1.0, r.1.1))

pub knows_all : (ss : List KeptEntry) (ns : List TallyEntry) (os : List (Option (List ℕ))) → AllSettled ss ns os → KnowsAll ns os
knows_all [] [] [] h id v xs found there = absurd cc
knows_all [] [] (o ∷ os) h id v xs found there = absurd h
knows_all [] (n ∷ ns) os h id v xs found there = absurd h
knows_all (s ∷ ss) [] os h id v xs found there = absurd h
knows_all (s ∷ ss) (n ∷ ns) [] h id v xs found there = absurd h
knows_all (s ∷ ss) (n ∷ ns) (o ∷ os) h id v xs found there = by (knows_all ss ns os h.1 id v xs) (int_eq n.id id) found
  where
    by : (values_noted_for ns id ≡ Some xs → Contains xs v → IsSome (index ns os id v)) → (b : Bool)
        → cond b (Some n.values) (values_noted_for ns id) ≡ Some xs → IsSome (cond b (number_at (first_index v n.values) o)
        (index ns os id v))
    by rest true e = let same : n.values ≡ xs = cc in knows s.values n.values o v h.0 (subst (λ l. Contains l v) (sym same) there)
    by rest false e = rest e there

-- the index of a value is the plan's number for the place that the tally gave it
pub index_renumbered : (ss : List KeptEntry) (ns : List TallyEntry) (os : List (Option (List ℕ))) → AllSettled ss ns os → (id : ℤ)
    (v : Value) (i : ℕ) → place_of_value ns id v ≡ Some i → index ns os id v ≡ Some (number_or (number ns os id i) i)
index_renumbered ss [] os h id v i found = absurd cc
index_renumbered [] (n ∷ ns) os h id v i found = absurd h
index_renumbered (s ∷ ss) (n ∷ ns) [] h id v i found = absurd h
index_renumbered (s ∷ ss) (n ∷ ns) (o ∷ os) h id v i found = by (index_renumbered ss ns os h.1 id v i) (int_eq n.id id) found
  where
    by : (place_of_value ns id v ≡ Some i → index ns os id v ≡ Some (number_or (number ns os id i) i)) → (b : Bool)
        → cond b (first_index v n.values) (place_of_value ns id v) ≡ Some i
        → cond b (number_at (first_index v n.values) o) (index ns os id v) ≡ Some
        (number_or (cond b (kept_number o i) (number ns os id i)) i)
    by rest true e = renumbered s.values n.values o v i h.0 e
    by rest false e = rest e

pub finds_noted : (ss : List KeptEntry) (ns : List TallyEntry) (os : List (Option (List ℕ))) → SameIds ss ns → AllSettled ss ns os
    → FindsNoted ss ns os
finds_noted ss ns os ids h id v i found =
    finds_all ss ns os ids h id v (number_or (number ns os id i) i) (index_renumbered ss ns os h id v i found)
