-- What was sent once a plan's batch is.
use Rattle.std.proofs.Common.{◌≡◌, ◌∙◌, refl, sym, ap, subst, ℕ, Bool, true, false, cond, ◌&&◌, ℤ, List, [], ◌∷◌, ◌++◌}
use Rattle.std.proofs.Common.{map, length, Option, Some, None, int_eq, true≢false, ◌≤◌, ◌||◌}
use Rattle.std.specs.Prelude.{if◌then◌else◌}
use Rattle.std.specs.List.{AllByRecursion, list_all, list_any, Contains}
use Rattle.std.specs.Map.{keys_of}
use Rattle.std.specs.Option.{option_map, is_some, IfSome, IsSome}
use Rattle.std.proofs.lemmas.Bool.Decides.{Decides-int_eq}
use Rattle.std.proofs.lemmas.List.Folds.{list_all_at}
use Rattle.std.proofs.lemmas.Map.Made.{is_some-lookup}
use Rattle.indexmap.proofs.MapLemmas.{some_index}
use Rattle.ipc_model.specs.declared.schema.Dictionary.{Dictionary}
use Rattle.ipc_model.specs.declared.schema.Field.{Field}
use Rattle.ipc_model.specs.declared.value.Value.{Value}
use Rattle.ipc_dict.specs.declared.entry.TallyEntry.{TallyEntry}
use Rattle.ipc_dict.specs.declared.kept.KeptEntry.{KeptEntry}
use Rattle.ipc_dict.specs.Distinct.{same, is_among, first_index}
use Rattle.ipc_dict.specs.Counted.{HoldsRows}
use Rattle.ipc_dict.specs.Noting.{AllFit, values_noted_for}
use Rattle.ipc_dict.specs.Planning.{AreFirstIndices, IsSettled, AllSettled, values_after, after_all, own_send, sends_of, sent_for}
use Rattle.ipc_dict.specs.Planning.{times_sent}
use Rattle.ipc_dict.specs.Pairs.{rows_pairs}
use Rattle.ipc_dict.specs.SchemaIds.{index_capacity, ids_of, kept_ids, of_fields, tally_ids, nothing_sent, empty_entries}
use Rattle.ipc_dict.specs.Sending.{AreAddressed, AreCounted, batch_values, dictionaries_to_send, needed_of, tally_of_rows, sent_next}
use Rattle.ipc_dict.specs.Sending.{sent_after, sent_entry, times_sent_next}
use Rattle.ipc_dict.proofs.pairs.CoveredIndices.{has_entry, noted_counts}
use Rattle.ipc_dict.proofs.ids.Ids.{same_ids, SameIds}
use Rattle.ipc_dict.proofs.Rows.{holds_rows, ids_note_all}
use Rattle.ipc_dict.proofs.ids.UniqueIds.{IsOther, AreUnique, unique_ids, flipped}

-- ---- one dictionary

keys-alone : (xs : List Value) → keys_of (map (λ (x : Value). (x, true)) xs) ≡ xs
keys-alone [] = refl
keys-alone (x ∷ xs) = ap (λ l. x ∷ l) (keys-alone xs)

-- a value has a place exactly where it is among the values
pub placed-seen : (v : Value) (xs : List Value) → is_some (first_index v xs) ≡ is_among xs v
placed-seen v xs =
    let es : List (Value × Bool) = map (λ (x : Value). (x, true)) xs in
    ap (λ l. is_some (first_index v l)) (sym (keys-alone xs)) ∙ some_index (same v) es ∙ is_some-lookup (same v) es
    ∙ ap (list_any (same v)) (keys-alone xs)

all_seen : (known values : List Value) (to : List ℕ) → AreFirstIndices known values to → list_all (is_among known) values ≡ true
all_seen known [] to h = refl
all_seen known (v ∷ values) [] h = absurd cc
all_seen known (v ∷ values) (i ∷ to) h =
    let head : first_index v known ≡ Some i = cc in
    let rest : AreFirstIndices known values to = cc in
    ap (λ b. b && list_all (is_among known) values) (sym (placed-seen v known) ∙ ap is_some head) ∙ all_seen known values to rest

settled_next : (sent : Option (List Value)) (values : List Value) (o : Option (List ℕ)) → IsSettled sent values o
    → values_after sent values o ≡ sent_next sent values
settled_next None values None h = refl
settled_next None values (Some to) h = absurd h
settled_next (Some known) values (Some to) h = sym (ap (λ b. cond b (Some known) (Some values)) (all_seen known values to h))
settled_next (Some known) values None (v, (there, none)) =
    let unseen : is_among known v ≡ false = sym (placed-seen v known) ∙ ap is_some none in
    let lacks : list_all (is_among known) values ≡ false =
    list_all_at (is_among known) values there.0 v there.1 (ap (is_among known) there.2 ∙ unseen) in
    sym (ap (λ b. cond b (Some known) (Some values)) lacks)

settled_times : (sent : Option (List Value)) (values : List Value) (n : ℕ) (o : Option (List ℕ)) → IsSettled sent values o
    → times_sent n o ≡ times_sent_next sent values n
settled_times None values n None h = refl
settled_times None values n (Some to) h = absurd h
settled_times (Some known) values n (Some to) h = sym (ap (λ b. cond b n (times_sent n None)) (all_seen known values to h))
settled_times (Some known) values n None (v, (there, none)) =
    let unseen : is_among known v ≡ false = sym (placed-seen v known) ∙ ap is_some none in
    let lacks : list_all (is_among known) values ≡ false =
    list_all_at (is_among known) values there.0 v there.1 (ap (is_among known) there.2 ∙ unseen) in
    sym (ap (λ b. cond b n (times_sent n None)) lacks)

settled_needs : (sent : Option (List Value)) (n : TallyEntry) (o : Option (List ℕ)) → IsSettled sent n.values o
    → own_send n o ≡ needed_of sent n.id n.values
settled_needs None n None h = refl
settled_needs None n (Some to) h = absurd h
settled_needs (Some known) n (Some to) h =
    sym (ap (λ b. cond b [] ((n.id, map (λ v. v ∷ []) n.values) ∷ [])) (all_seen known n.values to h))
settled_needs (Some known) n None (v, (there, none)) =
    let unseen : is_among known v ≡ false = sym (placed-seen v known) ∙ ap is_some none in
    let lacks : list_all (is_among known) n.values ≡ false =
    list_all_at (is_among known) n.values there.0 v there.1 (ap (is_among known) there.2 ∙ unseen) in
    sym (ap (λ b. cond b [] ((n.id, map (λ v. v ∷ []) n.values) ∷ [])) lacks)

-- ---- all of them

module _ (fields : List Field) (rows : List (List Value)) where
  -- each entry has the distinct values of the rows
  abbrev HoldEach : List TallyEntry → Type 0
  HoldEach es = AllByRecursion (λ e. e.values ≡ batch_values fields rows e.id) es

  all_next : (ks : List KeptEntry) (es : List TallyEntry) (os : List (Option (List ℕ))) → SameIds ks es → AllSettled ks es os → HoldEach es
      → after_all ks es os ≡ sent_after fields rows ks
  all_next [] es os ids settled each = refl
  all_next (k ∷ ks) [] os ids settled each = absurd ids
  all_next (k ∷ ks) (e ∷ es) [] ids settled each = absurd settled
  all_next (k ∷ ks) (e ∷ es) (o ∷ os) ids settled each =
      let values : e.values ≡ batch_values fields rows k.id = each.0 ∙ ap (batch_values fields rows) (sym ids.0) in
      let noted = batch_values fields rows k.id in
      let next = settled_next k.values e.values o settled.0 ∙ ap (sent_next k.values) values in
      let times = settled_times k.values e.values k.sent o settled.0 ∙ ap (λ vs. times_sent_next k.values vs k.sent) values in
      ap (λ x. (record k { values = x; sent = times_sent k.sent o }) ∷ after_all ks es os) next
      ∙ ap (λ n. (record k { values = sent_next k.values noted; sent = n }) ∷ after_all ks es os) times
      ∙ ap (λ l. sent_entry fields rows k ∷ l) (all_next ks es os ids.1 settled.1 each.1)

  all_needed : (ks : List KeptEntry) (es : List TallyEntry) (os : List (Option (List ℕ))) → SameIds ks es → AllSettled ks es os
      → HoldEach es → sends_of es os ≡ dictionaries_to_send fields rows ks
  all_needed [] [] [] ids settled each = refl
  all_needed [] [] (o ∷ os) ids settled each = absurd settled
  all_needed [] (e ∷ es) os ids settled each = absurd ids
  all_needed (k ∷ ks) [] os ids settled each = absurd ids
  all_needed (k ∷ ks) (e ∷ es) [] ids settled each = absurd settled
  all_needed (k ∷ ks) (e ∷ es) (o ∷ os) ids settled each =
      let id : e.id ≡ k.id = sym ids.0 in
      let values : e.values ≡ batch_values fields rows k.id = each.0 ∙ ap (batch_values fields rows) id in
      ap (λ l. l ++ sends_of es os)
      (settled_needs k.values e o settled.0 ∙ ap (λ i. needed_of k.values i e.values) id ∙ ap (needed_of k.values k.id) values)
      ∙ ap (λ l. needed_of k.values k.id (batch_values fields rows k.id) ++ l) (all_needed ks es os ids.1 settled.1 each.1)

  -- ---- each entry is found by its id

  abbrev AllFound : List TallyEntry → List TallyEntry → Type 0
  AllFound all es = AllByRecursion (λ e. values_noted_for all e.id ≡ Some e.values) es

  found-behind : (e : TallyEntry) (all es : List TallyEntry) → IsOther e.id (tally_ids es) → AllFound all es → AllFound (e ∷ all) es
  found-behind e all [] other found = tt
  found-behind e all (x ∷ es) other found = (
    ap (λ b. cond b (Some e.values) (values_noted_for all x.id)) (flipped x.id e.id other.0) ∙ found.0,
    found-behind e all es other.1 found.1,
  )

  found-each : (es : List TallyEntry) → AreUnique (tally_ids es) → AllFound es es
  found-each [] unique = tt
  found-each (e ∷ es) unique = (
    ap (λ b. cond b (Some e.values) (values_noted_for es e.id)) ((Decides-int_eq e.id e.id).1 refl),
    found-behind e es es unique.0 (found-each es unique.1),
  )

  one_value : (xs ys : List Value) (o : Option (List Value)) → Some xs ≡ option_map (λ none. ys) o → xs ≡ ys
  one_value xs ys None h = absurd cc
  one_value xs ys (Some zs) h = cc

  hold_each : (all es : List TallyEntry) → HoldsRows fields rows all → AllFound all es → HoldEach es
  hold_each all [] holds found = tt
  hold_each all (e ∷ es) holds found = (
    one_value e.values (batch_values fields rows e.id) (values_noted_for (empty_entries fields) e.id) (sym found.0 ∙ holds e.id),
    hold_each all es holds found.1,
  )

  pub tallied_ids : tally_ids (tally_of_rows fields rows) ≡ ids_of fields
  tallied_ids = ids_note_all (empty_entries fields) (rows_pairs fields rows)

  pub tallied_unique : AreUnique (tally_ids (tally_of_rows fields rows))
  tallied_unique = subst AreUnique (sym tallied_ids) (unique_ids fields)

  -- the entries of a tally have the distinct values of the rows
  pub tallied_values : HoldEach (tally_of_rows fields rows)
  tallied_values = hold_each (tally_of_rows fields rows) (tally_of_rows fields rows) (holds_rows fields rows)
      (found-each (tally_of_rows fields rows) tallied_unique)

  -- what a plan leaves of what was sent
  pub sent_is : (kept : List KeptEntry) (os : List (Option (List ℕ))) → kept_ids kept ≡ ids_of fields
      → AllSettled kept (tally_of_rows fields rows) os → after_all kept (tally_of_rows fields rows) os ≡ sent_after fields rows kept
  sent_is kept os ids settled = all_next kept (tally_of_rows fields rows) os
      (same_ids kept (tally_of_rows fields rows) (ids ∙ sym tallied_ids)) settled tallied_values

  -- what a plan sends
  pub needed_is : (kept : List KeptEntry) (os : List (Option (List ℕ))) → kept_ids kept ≡ ids_of fields
      → AllSettled kept (tally_of_rows fields rows) os → sends_of (tally_of_rows fields rows) os ≡ dictionaries_to_send fields rows kept
  needed_is kept os ids settled = all_needed kept (tally_of_rows fields rows) os
      (same_ids kept (tally_of_rows fields rows) (ids ∙ sym tallied_ids)) settled tallied_values

-- ---- how many values are sent

-- what was sent of an id once a batch was
sent_for_after : (fields : List Field) (rows : List (List Value)) (kept : List KeptEntry) (id : ℤ)
    → sent_for (sent_after fields rows kept) id
    ≡ (if list_any (λ e. int_eq e.id id) kept then sent_next (sent_for kept id) (batch_values fields rows id) else None)
sent_for_after fields rows [] id = refl
sent_for_after fields rows (k ∷ kept) id = by (sent_for_after fields rows kept id) (int_eq k.id id) refl
  where
    by : sent_for (sent_after fields rows kept) id
        ≡ (if list_any (λ e. int_eq e.id id) kept then sent_next (sent_for kept id) (batch_values fields rows id) else None)
        → (b : Bool) → int_eq k.id id ≡ b
        → cond b (sent_next k.values (batch_values fields rows k.id)) (sent_for (sent_after fields rows kept) id)
        ≡ cond (b || list_any (λ e. int_eq e.id id) kept)
        (sent_next (cond b k.values (sent_for kept id)) (batch_values fields rows id)) None
    by rest true q = ap (λ i. sent_next k.values (batch_values fields rows i)) ((Decides-int_eq k.id id).0 q)
    by rest false q = rest

-- the values of a batch are no more than each index type counts
batch_counts : (fields : List Field) (rows : List (List Value)) (d : Dictionary) → Contains (of_fields fields) d
    → AllFit (tally_of_rows fields rows) → length (batch_values fields rows d.id) ≤ index_capacity d
batch_counts fields rows d named fit = by (values_noted_for (empty_entries fields) d.id) refl (has_entry fields d named)
  where
    by : (o : Option (List Value)) → values_noted_for (empty_entries fields) d.id ≡ o → IsSome o → length (batch_values fields rows d.id)
        ≤ index_capacity d
    by None e some = absurd (true≢false (sym some))
    by (Some none) e some = noted_counts fields (rows_pairs fields rows) d (batch_values fields rows d.id) named fit
        (holds_rows fields rows d.id ∙ ap (option_map (λ none. batch_values fields rows d.id)) e)

-- so are those that were sent, where those before were
pub counted_after : (fields : List Field) (rows : List (List Value)) (kept : List KeptEntry) → AllFit (tally_of_rows fields rows)
    → AreCounted fields kept → AreCounted fields (sent_after fields rows kept)
counted_after fields rows kept fit before d named =
    subst (λ o. IfSome o (λ known. length known ≤ index_capacity d)) (sym (sent_for_after fields rows kept d.id))
    (by (list_any (λ e. int_eq e.id d.id) kept) (sent_for kept d.id) (before d named))
  where
    few : length (batch_values fields rows d.id) ≤ index_capacity d
    few = batch_counts fields rows d named fit

    next : (known : List Value) → length known ≤ index_capacity d → (b : Bool)
        → IfSome (cond b (Some known) (Some (batch_values fields rows d.id))) (λ known. length known ≤ index_capacity d)
    next known h true = h
    next known h false = few

    by : (b : Bool) (o : Option (List Value)) → IfSome o (λ known. length known ≤ index_capacity d)
        → IfSome (cond b (sent_next o (batch_values fields rows d.id)) None) (λ known. length known ≤ index_capacity d)
    by false o h = tt
    by true None h = few
    by true (Some known) h = next known h (list_all (is_among known) (batch_values fields rows d.id))

-- ---- where nothing was sent

pub sent_unsent : (ids : List ℤ) (id : ℤ) → sent_for (nothing_sent ids) id ≡ None
sent_unsent [] id = refl
sent_unsent (i ∷ ids) id = by (sent_unsent ids id) (int_eq i id)
  where
    by : sent_for (nothing_sent ids) id ≡ None → (b : Bool) → cond b None (sent_for (nothing_sent ids) id) ≡ None
    by rest true = refl
    by rest false = rest

-- nothing that was sent is counted by each index type
pub none_counted : (fields : List Field) → AreCounted fields (nothing_sent (ids_of fields))
none_counted fields d named =
    subst (λ o. IfSome o (λ known. length known ≤ index_capacity d)) (sym (sent_unsent (ids_of fields) d.id)) tt

-- ---- what is sent by a plan

module _ (id : ℤ) (n : ℕ) where
  -- at most so many values, if there are some
  abbrev Few : Option (List Value) → Type 0
  Few o = IfSome o (λ values. length values ≤ n)

  few_after : (ks : List KeptEntry) (es : List TallyEntry) (os : List (Option (List ℕ))) → SameIds ks es → Few (values_noted_for es id)
      → Few (sent_for ks id) → Few (sent_for (after_all ks es os) id)
  few_after [] es os ids noted sent = tt
  few_after (k ∷ ks) [] os ids noted sent = absurd ids
  few_after (k ∷ ks) (e ∷ es) [] ids noted sent = sent
  few_after (k ∷ ks) (e ∷ es) (o ∷ os) ids noted sent =
      by (few_after ks es os ids.1) (int_eq k.id id) (ap (λ z. int_eq z id) (sym ids.0)) o noted sent
    where
      by : (Few (values_noted_for es id) → Few (sent_for ks id) → Few (sent_for (after_all ks es os) id)) → (b : Bool) → int_eq e.id id ≡ b
          → (p : Option (List ℕ)) → Few (cond (int_eq e.id id) (Some e.values) (values_noted_for es id))
          → Few (cond b k.values (sent_for ks id)) → Few (cond b (values_after k.values e.values p) (sent_for (after_all ks es os) id))
      by rest true q (Some to) noted sent = sent
      by rest true q None noted sent = subst (λ c. Few (cond c (Some e.values) (values_noted_for es id))) q noted
      by rest false q p noted sent = rest (subst (λ c. Few (cond c (Some e.values) (values_noted_for es id))) q noted) sent

-- where each index type counts the values before and those of a plan, it counts those once the plan was sent
pub counted_plan : (fields : List Field) (kept : List KeptEntry) (es : List TallyEntry) (os : List (Option (List ℕ)))
    → kept_ids kept ≡ tally_ids es → AreAddressed fields es → AreCounted fields kept → AreCounted fields (after_all kept es os)
counted_plan fields kept es os ids values before d named =
    few_after d.id (index_capacity d) kept es os (same_ids kept es ids) (values d named) (before d named)
