-- What is in force once dictionaries were set.
use Rattle.std.proofs.Common.{◌≡◌, ◌∙◌, refl, sym, ap, subst, ℕ, Bool, true, false, cond, ℤ, List, [], ◌∷◌, map}
use Rattle.std.proofs.Common.{Option, Some, None, int_eq, true≢false}
use Rattle.std.specs.Ordering.{int_cmp, is_eq, match_ordering, MatchOrdering}
use Rattle.std.specs.declared.cmp.Ordering.{Ordering}
use Rattle.std.specs.Bool.{Decides}
use Rattle.std.specs.Prelude.{◌<ℤ◌}
use Rattle.std.specs.Int.Signed.{<ℤ_irrefl}
use Rattle.std.specs.declared.cmp.Ordering.TheVariants.{Less, Equal, Greater}
use Rattle.std.specs.Cmp.{ranked_equal}
use Rattle.std.proofs.lemmas.Bool.Decides.{Decides-int_eq}
use Rattle.std.proofs.lemmas.Cmp.{int_ranked}
use Rattle.ipc_model.specs.declared.limits.Limits.{Limits}
use Rattle.ipc_model.specs.declared.schema.Schema.{Schema}
use Rattle.ipc_model.specs.declared.value.Value.{Value}
use Rattle.ipc_column.specs.Values.{first_of}
use Rattle.ipc_dict_read.specs.InForce.{at, put}
use Rattle.ipc_dict.specs.declared.entry.TallyEntry.{TallyEntry}
use Rattle.ipc_dict.specs.declared.kept.KeptEntry.{KeptEntry}
use Rattle.ipc_dict.specs.Planning.{values_after, after_all, sends_of, sent_for}
use Rattle.ipc_dict.specs.SchemaIds.{tally_ids}
use Rattle.ipc_dict.proofs.ids.UniqueIds.{IsOther, AreUnique}
use Rattle.ipc_stream_read.specs.Stream.{InForce, DictionaryInForce, Run, done, more, values_in_force, set_dictionary}
use Rattle.ipc_stream.specs.declared.message.Message.{Message}
use Rattle.ipc_stream.specs.Messages.{SetDictionaries, all_bytes}
use Rattle.ipc_dict.proofs.ids.Ids.{SameIds}

-- ---- a map with one entry more

equal_is : (x y : ℤ) → is_eq (int_cmp x y) ≡ int_eq y x
equal_is x y = by (int_eq y x) refl (is_eq (int_cmp x y)) refl
  where
    d : Decides (is_eq (int_cmp x y)) (x ≡ y)
    d = ranked_equal x y (int_cmp x y) (int_ranked x y (int_cmp x y) refl)

    by : (b : Bool) → int_eq y x ≡ b → (c : Bool) → is_eq (int_cmp x y) ≡ c → c ≡ b
    by true e c f = sym f ∙ d.1 (sym ((Decides-int_eq y x).0 e))
    by false e false f = refl
    by false e true f = absurd (true≢false (sym ((Decides-int_eq y x).1 (sym (d.0 f))) ∙ e))

module _ {X : Type 0} where
  pub put_at : (es : List (ℤ × X)) (k : ℤ) (v : X) (id : ℤ) → at (put es k v) id ≡ cond (int_eq k id) (Some v) (at es id)
  put_at [] k v id = ap (λ b. cond b (Some v) None) (equal_is id k)
  put_at (e ∷ es) k v id = by (put_at es k v id) (int_cmp k e.0) (int_ranked k e.0 (int_cmp k e.0) refl)
    where
      by : at (put es k v) id ≡ cond (int_eq k id) (Some v) (at es id) → (r : Ordering)
          → MatchOrdering r (k <ℤ e.0) (k ≡ e.0) (e.0 <ℤ k)
          → at (match_ordering r ((k, v) ∷ e ∷ es) ((e.0, v) ∷ es) (e ∷ put es k v)) id
          ≡ cond (int_eq k id) (Some v) (at (e ∷ es) id)
      by rest Less h = ap (λ b. cond b (Some v) (at (e ∷ es) id)) (equal_is id k)
      by rest Equal h =
          let here : is_eq (int_cmp id e.0) ≡ int_eq k id = equal_is id e.0 ∙ ap (λ z. int_eq z id) (sym h) in
          ap (λ b. cond b (Some v) (at es id)) here ∙ same (int_eq k id) here
        where
          same : (b : Bool) → is_eq (int_cmp id e.0) ≡ b → cond b (Some v) (at es id)
              ≡ cond b (Some v) (cond (is_eq (int_cmp id e.0)) (Some e.1) (at es id))
          same true f = refl
          same false f = sym (ap (λ c. cond c (Some e.1) (at es id)) f)
      by rest Greater h =
          ap (λ o. cond (is_eq (int_cmp id e.0)) (Some e.1) o) rest ∙ other (int_eq k id) refl (is_eq (int_cmp id e.0)) (equal_is id e.0)
        where
          other : (b : Bool) → int_eq k id ≡ b → (c : Bool) → c ≡ int_eq e.0 id
              → cond c (Some e.1) (cond b (Some v) (at es id)) ≡ cond b (Some v) (cond c (Some e.1) (at es id))
          other false f c g = refl
          other true f false g = refl
          other true f true g =
              let one : k ≡ e.0 = (Decides-int_eq k id).0 f ∙ sym ((Decides-int_eq e.0 id).0 (sym g)) in
              absurd (<ℤ_irrefl (subst (λ (z : ℤ). e.0 <ℤ z) one h))

-- the values of a map with one dictionary more
values_put : (es : List (ℤ × DictionaryInForce)) (id : ℤ) (d : DictionaryInForce)
    → values_in_force (put es id d) ≡ put (values_in_force es) id d.values
values_put [] id d = refl
values_put (e ∷ es) id d =
    elim (int_cmp id e.0) as (λ o. values_in_force (match_ordering o ((id, d) ∷ e ∷ es) ((e.0, d) ∷ es) (e ∷ put es id d))
    ≡ match_ordering o ((id, d.values) ∷ values_in_force (e ∷ es)) ((e.0, d.values) ∷ values_in_force es)
    ((e.0, e.1.values) ∷ put (values_in_force es) id d.values))
    [ Less ↦ refl | Equal ↦ refl | Greater ↦ ap (λ l. (e.0, e.1.values) ∷ l) (values_put es id d) ]

-- the first values of rows of one value are the values
rows_values : (vs : List Value) → map first_of (map (λ v. v ∷ []) vs) ≡ vs
rows_values [] = refl
rows_values (v ∷ vs) = ap (λ l. v ∷ l) (rows_values vs)

-- what is in force for an id once a dictionary was set
set_at : (o : InForce) (k : ℤ) (vs : List Value) (bytes : ℕ) (id : ℤ)
    → at (values_in_force (set_dictionary o k (map (λ v. v ∷ []) vs) bytes).dictionaries) id
    ≡ cond (int_eq k id) (Some vs) (at (values_in_force o.dictionaries) id)
set_at o k vs bytes id =
    ap (λ es. at es id) (values_put o.dictionaries k (record { values = map first_of (map (λ v. v ∷ []) vs); bytes = bytes }))
    ∙ ap (λ ws. at (put (values_in_force o.dictionaries) k ws) id) (rows_values vs)
    ∙ put_at (values_in_force o.dictionaries) k vs id

-- ---- the dictionaries of a plan

-- what is in force for an id once the dictionaries were sent, where this was before
abbrev sent_now : List TallyEntry → List (Option (List ℕ)) → ℤ → Option (List Value) → Option (List Value)
sent_now [] os id before = before
sent_now (n ∷ ns) [] id before = before
sent_now (n ∷ ns) (o ∷ os) id before = cond (int_eq n.id id) (values_after before n.values o) (sent_now ns os id before)

sent_now-other : (ns : List TallyEntry) (os : List (Option (List ℕ))) (id : ℤ) (before : Option (List Value)) → IsOther id (tally_ids ns)
    → sent_now ns os id before ≡ before
sent_now-other [] os id before other = refl
sent_now-other (n ∷ ns) [] id before other = refl
sent_now-other (n ∷ ns) (o ∷ os) id before other =
    ap (λ b. cond b (values_after before n.values o) (sent_now ns os id before)) other.0 ∙ sent_now-other ns os id before other.1

-- what was sent is that
sent_after_all : (ss : List KeptEntry) (ns : List TallyEntry) (os : List (Option (List ℕ))) (id : ℤ) → SameIds ss ns
    → sent_for (after_all ss ns os) id ≡ sent_now ns os id (sent_for ss id)
sent_after_all [] [] os id ids = refl
sent_after_all [] (n ∷ ns) os id ids = absurd ids
sent_after_all (s ∷ ss) [] os id ids = absurd ids
sent_after_all (s ∷ ss) (n ∷ ns) [] id ids = refl
sent_after_all (s ∷ ss) (n ∷ ns) (o ∷ os) id ids =
    by (int_eq s.id id) (ap (λ z. int_eq z id) (sym ids.0)) (sent_after_all ss ns os id ids.1)
  where
    by : (b : Bool) → int_eq n.id id ≡ b → sent_for (after_all ss ns os) id ≡ sent_now ns os id (sent_for ss id)
        → cond b (values_after s.values n.values o) (sent_for (after_all ss ns os) id)
        ≡ cond (int_eq n.id id) (values_after (cond b s.values (sent_for ss id)) n.values o)
        (sent_now ns os id (cond b s.values (sent_for ss id)))
    by true e rest = sym (ap (λ c. cond c (values_after s.values n.values o) (sent_now ns os id s.values)) e)
    by false e rest =
        rest ∙ sym (ap (λ c. cond c (values_after (sent_for ss id) n.values o) (sent_now ns os id (sent_for ss id))) e)

module _ (limits : Limits) (s : Schema) where
  -- a run of the dictionaries, and what is in force behind it
  abbrev Runs : InForce → List TallyEntry → List (Option (List ℕ)) → List ℕ → Type 0
  Runs o ns os x = (τ : InForce) × ((τ.schema ≡ s)
      × (((id : ℤ) → at (values_in_force τ.dictionaries) id ≡ sent_now ns os id (at (values_in_force o.dictionaries) id))
      × Run limits (Some o) x [] (Some τ)))

  pub dictionaries_run : (ns : List TallyEntry) (os : List (Option (List ℕ))) (ms : List Message) (o : InForce) → o.schema ≡ s
      → AreUnique (tally_ids ns) → SetDictionaries limits s (sends_of ns os) ms → Runs o ns os (all_bytes ms)
  dictionaries_run [] os [] o same unique sets = (o, (same, (λ id. refl, done)))
  dictionaries_run [] os (m ∷ ms) o same unique sets = absurd sets
  dictionaries_run (n ∷ ns) [] [] o same unique sets = (o, (same, (λ id. refl, done)))
  dictionaries_run (n ∷ ns) [] (m ∷ ms) o same unique sets = absurd sets
  dictionaries_run (n ∷ ns) (Some to ∷ os) ms o same unique sets =
      let rest = dictionaries_run ns os ms o same unique.1 sets in
      (rest.0, (rest.1.0, (λ id. rest.1.1.0 id ∙ kept id (int_eq n.id id) refl, rest.1.1.1)))
    where
      kept : (id : ℤ) (b : Bool) → int_eq n.id id ≡ b → sent_now ns os id (at (values_in_force o.dictionaries) id)
          ≡ cond b (at (values_in_force o.dictionaries) id) (sent_now ns os id (at (values_in_force o.dictionaries) id))
      kept id false e = refl
      kept id true e = sent_now-other ns os id _ (subst (λ z. IsOther z (tally_ids ns)) ((Decides-int_eq n.id id).0 e) unique.0)
  dictionaries_run (n ∷ ns) (None ∷ os) [] o same unique sets = absurd sets
  dictionaries_run (n ∷ ns) (None ∷ os) (m ∷ ms) o same unique sets =
      let bytes = sets.0.0 in
      let next = set_dictionary o n.id (map (λ v. v ∷ []) n.values) bytes in
      let first = sets.0.1 o same in
      let rest = dictionaries_run ns os ms next same unique.1 sets.1 in (
        rest.0,
        (
          rest.1.0,
          (
            λ id. rest.1.1.0 id ∙ ap (sent_now ns os id) (set_at o n.id n.values bytes id) ∙ now id (int_eq n.id id) refl,
            more first.frame first.step rest.1.1.1,
          ),
        ),
      )
    where
      now : (id : ℤ) (b : Bool) → int_eq n.id id ≡ b
          → sent_now ns os id (cond b (Some n.values) (at (values_in_force o.dictionaries) id))
          ≡ cond b (Some n.values) (sent_now ns os id (at (values_in_force o.dictionaries) id))
      now id false e = refl
      now id true e = sent_now-other ns os id _ (subst (λ z. IsOther z (tally_ids ns)) ((Decides-int_eq n.id id).0 e) unique.0)

  -- where what was sent was in force, what is sent then is
  pub sent_run : (ss : List KeptEntry) (ns : List TallyEntry) (os : List (Option (List ℕ))) (ms : List Message) (o : InForce)
      → o.schema ≡ s → ((id : ℤ) → at (values_in_force o.dictionaries) id ≡ sent_for ss id) → SameIds ss ns → AreUnique (tally_ids ns)
      → SetDictionaries limits s (sends_of ns os) ms
      → (τ : InForce) × ((τ.schema ≡ s) × (((id : ℤ) → at (values_in_force τ.dictionaries) id ≡ sent_for (after_all ss ns os) id)
      × Run limits (Some o) (all_bytes ms) [] (Some τ)))
  sent_run ss ns os ms o same values ids unique sets =
      let r = dictionaries_run ns os ms o same unique sets in
      (r.0, (r.1.0, (λ id. r.1.1.0 id ∙ ap (sent_now ns os id) (values id) ∙ sym (sent_after_all ss ns os id ids), r.1.1.1)))
