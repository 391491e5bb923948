-- The scan finds the first fault, and there is one at most.
use Rattle.std.proofs.Common.{◌≡◌, ◌∙◌, refl, sym, ap, subst, ℕ, zero, suc, ◌+◌, ◌<◌, ◌≤◌, ℤ, Bool, true, false, not, ◌&&◌, ◌⊎◌, ⊎_elim}
use Rattle.std.proofs.Common.{inl, inr, List, [], ◌∷◌, ◌++◌, length, take, drop, Option, Some, None, Result, Ok, Err, length-append, arith}
use Rattle.std.specs.Prelude.{◌↔◌, sum_by, nat_le, slice_get, if◌then◌else◌, IfErr}
use Rattle.std.proofs.lemmas.Bool.{cases_lt, cases_order, false≢true}
use Rattle.std.proofs.lemmas.Bool.Decides.{nat_tests}
use Rattle.std.proofs.lemmas.List.Sums.{sum_by-append, sum_by-cons}
use Rattle.std.proofs.lemmas.Option.{slice_get_past}
use Rattle.ipc_model.specs.FirstFault.{ExceedsTextLimits, HasConflict, BreaksRule, BreaksAt, rank, entry_number, IsFirstAt, IsFirstFault}
use Rattle.ipc_model.specs.WellFormed.{IsAmong}
use Rattle.ipc_model.specs.SchemaFaults.{Before, after, scan, unless_at, fault_at, has_good_type, has_fitting_children, has_leaf_dictionary}
use Rattle.ipc_model.specs.SchemaFaults.{is_little_text, has_conflict, agrees, same_type, at_start, done, verdict_on}
use Rattle.ipc_model.specs.Entries.{Entry, entries, pair_text}
use Rattle.ipc_model.proofs.Meanings.{Clear, clear_of, holds, good_both, fitting_both, leaf_both, agree_is, after_it, at_it, before_it}
use Rattle.ipc_model.proofs.SameTypes.{same_itself}
use Rattle.ipc_model.specs.declared.check.SchemaFault.{SchemaFault}
use Rattle.ipc_model.specs.declared.check.SchemaFault.TheVariants as f
use Rattle.ipc_model.specs.declared.schema.DataType.{DataType}
use Rattle.ipc_model.specs.declared.schema.Dictionary.{Dictionary}
use Rattle.ipc_model.specs.declared.schema.Schema.{Schema}
use Rattle.ipc_model.proofs.EntryTests.{no, test_at, told_at, clear_at}
use Rattle.ipc_model.specs.declared.limits.Limits.{Limits}

-- ---- what the totals say of the entries so far

record SoFar (s : Schema) (earlier : List Entry) (b : Before) : Type 0 where
  fields : b.fields ≡ length earlier
  text : b.text ≡ pair_text s.metadata + sum_by (λ e. e.text) earlier
  pairs : b.pairs ≡ length s.metadata + sum_by (λ e. e.pairs) earlier
  known : (id : ℤ) (k : DataType) → b.kinds id ≡ Some k
      → (a : Entry) × (IsAmong a earlier × ((d : Dictionary) × ((a.dictionary ≡ Some d) × ((d.id ≡ id) × (a.kind ≡ k)))))
  kept : (a : Entry) → IsAmong a earlier → (d : Dictionary) → a.dictionary ≡ Some d → b.kinds d.id ≡ Some a.kind

among_left : (a : Entry) (xs ys : List Entry) → IsAmong a xs → IsAmong a (xs ++ ys)
among_left a [] ys h = absurd h
among_left a (x ∷ xs) ys h = ⊎_elim (λ here. inl here) (λ later. inr (among_left a xs ys later)) h

among_last : (a : Entry) (xs : List Entry) → IsAmong a (xs ++ a ∷ [])
among_last a [] = inl refl
among_last a (x ∷ xs) = inr (among_last a xs)

among_both : (a : Entry) (xs : List Entry) (e : Entry) → IsAmong a (xs ++ e ∷ []) → IsAmong a xs ⊎ (e ≡ a)
among_both a [] e h = ⊎_elim (λ here. inr here) (λ none. absurd none) h
among_both a (x ∷ xs) e h = ⊎_elim (λ here. inl (inl here)) (λ later. ⊎_elim (λ p. inl (inr p)) (λ q. inr q) (among_both a xs e later)) h

total : (g : Entry → ℕ) (xs : List Entry) (e : Entry) → sum_by g (xs ++ e ∷ []) ≡ sum_by g xs + g e
total g xs e = sum_by-append g xs (e ∷ []) ∙ (let one = sum_by-cons g e [] in omega (arith, one))

more_so_far : {limits : Limits} → (s : Schema) (earlier : List Entry) (b : Before) (e : Entry) → SoFar s earlier b → Clear limits b e
    → SoFar s (earlier ++ e ∷ []) (after b e)
more_so_far s earlier b e so clear = record {
  fields = omega (arith, so.fields, length-append earlier (e ∷ []));
  text = omega (arith, so.text, total (λ e. e.text) earlier e);
  pairs = omega (arith, so.pairs, total (λ e. e.pairs) earlier e);
  known = λ id k at. ⊎_elim
      (λ (p : (g : Dictionary) × (e.dictionary ≡ Some g) × (g.id ≡ id) × (k ≡ e.kind)).
      (e, (among_last e earlier, (p.0, (p.1, (p.2, sym p.3))))))
      (λ (h : b.kinds id ≡ Some k). let p = so.known id k h in (p.0, (among_left p.0 earlier (e ∷ []) p.1.0, p.1.1)))
      (before_it b.kinds e.dictionary e.kind id k at);
  kept = λ a among d is. ⊎_elim
      (λ (old : IsAmong a earlier). after_it b.kinds e.dictionary e.kind d.id a.kind (so.kept a old d is)
      (λ g own same. agree_is b.kinds e.dictionary e.kind g a.kind clear.agree own (ap b.kinds same ∙ so.kept a old d is)))
      (λ (here : e ≡ a). at_it b.kinds e.dictionary e.kind d (ap (λ y. y.dictionary) here ∙ is) ∙ ap (λ y. Some y.kind) here)
      (among_both a earlier e among);
}

-- ---- a test fails exactly where its rule is broken

not_both : {P : Type 0} (c : Bool) → ((c ≡ true) ↔ P) → (c ≡ false) ↔ (¬ P)
not_both true d = (λ h. no h, λ n. absurd (n (d.0 refl)))
not_both false d = (λ h p. absurd (false≢true (d.1 p)), λ n. refl)

over_is : (a m : ℕ) → nat_le a m ≡ false → m < a
over_is a m h = grind (arith, nat_tests)

is_over : (a m : ℕ) → m < a → nat_le a m ≡ false
is_over a m h = grind (arith, nat_tests)

much_is : (x y : Bool) → (x && y) ≡ false → (x ≡ false) ⊎ (y ≡ false)
much_is true y h = inr h
much_is false y h = inl refl

is_much : (x y : Bool) → (x ≡ false) ⊎ (y ≡ false) → (x && y) ≡ false
is_much true y h = ⊎_elim (λ p. no p) (λ q. q) h
is_much false y h = refl

little_both : (limits : Limits) (s : Schema) (es : List Entry) (b : Before) → b.text ≡ pair_text s.metadata + sum_by (λ e. e.text) es
    → b.pairs ≡ length s.metadata + sum_by (λ e. e.pairs) es → (is_little_text limits b ≡ false) ↔ ExceedsTextLimits limits s es
little_both limits s es b text pairs = (
  λ h. ⊎_elim (λ p. let q = over_is b.text limits.text p in inl (omega (arith, q, text)))
      (λ p. let q = over_is b.pairs limits.pairs p in inr (omega (arith, q, pairs)))
      (much_is (nat_le b.text limits.text) (nat_le b.pairs limits.pairs) h),
  λ h. is_much (nat_le b.text limits.text) (nat_le b.pairs limits.pairs)
      (⊎_elim (λ p. inl (is_over b.text limits.text (omega (arith, p, text))))
      (λ p. inr (is_over b.pairs limits.pairs (omega (arith, p, pairs)))) h),
)

record Conflict (kinds : ℤ → Option DataType) (o : Option Dictionary) (kind : DataType) : Type 0 where
  dictionary : Dictionary
  is : o ≡ Some dictionary
  first : DataType
  at : kinds dictionary.id ≡ Some first
  other : ¬ (first ≡ kind)

conflict_is : (kinds : ℤ → Option DataType) (o : Option Dictionary) (kind : DataType) → has_conflict kinds o kind ≡ true
    → Conflict kinds o kind
conflict_is kinds None kind h = absurd (false≢true h)
conflict_is kinds (Some d) kind h = by_first (kinds d.id) refl h
  where
    by_first : (first : Option DataType) → kinds d.id ≡ first → not (agrees first kind) ≡ true → Conflict kinds (Some d) kind
    by_first None e h = absurd (false≢true h)
    by_first (Some k) e h = record {
      dictionary = d;
      is = refl;
      first = k;
      at = e;
      other = λ same. let t : same_type k kind ≡ true = rw same (same_itself kind) in absurd (false≢true (rw t at h));
    }

conflict_both : (s : Schema) (earlier : List Entry) (b : Before) (e : Entry) → SoFar s earlier b
    → (not (has_conflict b.kinds e.dictionary e.kind) ≡ false) ↔ HasConflict earlier e
conflict_both s earlier b e so = (
  λ h.
      let p = conflict_is b.kinds e.dictionary e.kind (holds _ h) in
      let q = so.known p.dictionary.id p.first p.at in
      (q.0, (q.1.0, λ one. p.other (sym q.1.1.1.1.1 ∙ one q.1.1.0 p.dictionary q.1.1.1.0 p.is q.1.1.1.1.0))),
  λ h. by_test h (has_conflict b.kinds e.dictionary e.kind) refl,
)
  where
    by_test : HasConflict earlier e → (c : Bool) → has_conflict b.kinds e.dictionary e.kind ≡ c → not c ≡ false
    by_test h true is = refl
    by_test h false is = absurd (h.1.1 (λ d g is_d is_g same. agree_is b.kinds e.dictionary e.kind g h.0.kind is is_g
        (ap b.kinds (sym same) ∙ so.kept h.0 h.1.0 d is_d)))

broken_both : (limits : Limits) (s : Schema) (earlier : List Entry) (b : Before) (e : Entry) → SoFar s earlier b → (y : SchemaFault)
    → (test_at limits b e y ≡ false) ↔ BreaksRule limits s earlier e y
broken_both limits s earlier b e so (f.BadType m) = not_both (has_good_type e.kind) (good_both e.kind)
broken_both limits s earlier b e so (f.BadChildren m) = not_both (has_fitting_children e.kind e.children) (fitting_both e.kind e.children)
broken_both limits s earlier b e so (f.TooManyFields m) = (
  λ h. let q = over_is (b.fields + 1) limits.fields h in omega (arith, q, so.fields),
  λ h. is_over (b.fields + 1) limits.fields (omega (arith, h, so.fields)),
)
broken_both limits s earlier b e so (f.TooDeep m) = (λ h. over_is e.depth limits.depth h, λ h. is_over e.depth limits.depth h)
broken_both limits s earlier b e so (f.TooMuchText m) =
    little_both limits s (earlier ++ e ∷ []) (after b e) (omega (arith, so.text, total (λ e. e.text) earlier e))
    (omega (arith, so.pairs, total (λ e. e.pairs) earlier e))
broken_both limits s earlier b e so (f.DictionaryConflict m) = conflict_both s earlier b e so
broken_both limits s earlier b e so (f.NestedDictionary m) = not_both (has_leaf_dictionary e) (leaf_both e.dictionary e.kind)
broken_both limits s earlier b e so f.OutOfMemory = (λ h. no h, λ h. absurd h)

-- ---- the entries by their places

-- an entry with k before it
record HeadAt (all : List Entry) (k : ℕ) (e : Entry) (rest : List Entry) : Type 0 where
  here : slice_get all k ≡ Some e
  behind : drop (suc k) all ≡ rest
  taken : take (suc k) all ≡ take k all ++ e ∷ []
  size : length (take k all) ≡ k

head_at : (all : List Entry) (k : ℕ) (e : Entry) (rest : List Entry) → drop k all ≡ e ∷ rest → HeadAt all k e rest
head_at [] zero e rest h = cc
head_at [] (suc k) e rest h = cc
head_at (x ∷ xs) zero e rest h = let first : x ≡ e = cc in let more : xs ≡ rest =
    cc in record { here = ap (λ (y : Entry). Some y) first; behind = more; taken = ap (λ (y : Entry). y ∷ []) first; size = refl }
head_at (x ∷ xs) (suc k) e rest h =
    let p = head_at xs k e rest h in
    record { here = p.here; behind = p.behind; taken = ap (λ (ys : List Entry). x ∷ ys) p.taken; size = ap (λ (n : ℕ). suc n) p.size }

past_end : (all : List Entry) (k : ℕ) → drop k all ≡ [] → length all ≤ k
past_end [] k h = omega arith
past_end (x ∷ xs) zero h = cc
past_end (x ∷ xs) (suc k) h = let p = past_end xs k h in omega (arith, p)

-- no entry among the first k breaks a rule
abbrev AreClean : Limits → Schema → ℕ → Type 0
AreClean limits s k = (j : ℕ) → j < k → (y : SchemaFault) → ¬ BreaksAt limits s j y

module _ (limits : Limits) (s : Schema) (k : ℕ) (e : Entry) (rest : List Entry) (b : Before) (head : HeadAt (entries s.fields) k e rest)
    (so : SoFar s (take k (entries s.fields)) b) where
  here_breaks : (y : SchemaFault) → BreaksAt limits s k y → test_at limits b e y ≡ false
  here_breaks y h =
      let same : h.0 ≡ e = cc (head.here, h.1.0) in
      (broken_both limits s (take k (entries s.fields)) b e so y).1 (subst (λ (x : Entry).
      BreaksRule limits s (take k (entries s.fields)) x y)
      same h.1.1)

  first_here : (x : SchemaFault) → AreClean limits s k → fault_at limits b e ≡ Some x → IsFirstAt limits s k x
  first_here x clean h =
      let t = told_at limits b e x h in
      record {
        number = omega (arith, t.number, so.fields, head.size);
        broken = (e, (head.here, (broken_both limits s (take k (entries s.fields)) b e so x).0 t.fails));
        reported_first = λ y broken. t.least y (here_breaks y broken);
        none_before = clean;
      }

  clean_here : AreClean limits s k → fault_at limits b e ≡ None → AreClean limits s (suc k)
  clean_here clean h j l y broken =
      elim (cases_order j k) as (λ _. ⊥) [
        | inl same ↦ absurd (false≢true (sym (here_breaks y (subst (λ (i : ℕ). BreaksAt limits s i y) same broken))
            ∙ clear_at limits b e h y))
        | inr r ↦ elim r as (λ _. ⊥) [ inl m ↦ clean j m y broken | inr m ↦ absurd (omega arith) ]
      ]

  so_here : fault_at limits b e ≡ None → SoFar s (take (suc k) (entries s.fields)) (after b e)
  so_here h = subst (λ (xs : List Entry). SoFar s xs (after b e)) (sym head.taken)
      (more_so_far s (take k (entries s.fields)) b e so (clear_of {limits = limits} b e h))

-- the first fault of the entries from one on
first_from : {limits : Limits} → (s : Schema) (k : ℕ) (es : List Entry) (b : Before) → drop k (entries s.fields) ≡ es
    → SoFar s (take k (entries s.fields)) b
    → AreClean limits s k → (x : SchemaFault) → scan limits b es ≡ Err x → (j : ℕ) × IsFirstAt limits s j x
first_from {limits} s k [] b is so clean x h = cc
first_from {limits} s k (e ∷ rest) b is so clean x h =
    let head = head_at (entries s.fields) k e rest is in
    by_fault (fault_at limits b e) refl (λ none q. first_from s (suc k) rest (after b e) head.behind (so_here limits s k e rest b head so
    none)
    (clean_here limits s k e rest b head so clean none) x q) h
  where
    by_fault : (o : Option SchemaFault) → fault_at limits b e ≡ o
        → (fault_at limits b e ≡ None → scan limits (after b e) rest ≡ Err x → (j : ℕ) × IsFirstAt limits s j x)
        → unless_at o (scan limits (after b e) rest) ≡ Err x
        → (j : ℕ) × IsFirstAt limits s j x
    by_fault None none later q = later none q
    by_fault (Some y) some later q =
        let same : y ≡ x = cc in (
          k,
          first_here limits s k e rest b (head_at (entries s.fields) k e rest is) so x clean (some
              ∙ ap (λ (z : SchemaFault). Some z) same),
        )

-- no entry breaks a rule where the scan comes to the end
clean_from : (limits : Limits) (s : Schema) (k : ℕ) (es : List Entry) (b c : Before) → drop k (entries s.fields) ≡ es
    → SoFar s (take k (entries s.fields)) b
    → AreClean limits s k → scan limits b es ≡ Ok c → (j : ℕ) (y : SchemaFault) → ¬ BreaksAt limits s j y
clean_from limits s k [] b c is so clean h = λ j y broken.
    elim (cases_lt j (length (entries s.fields))) as (λ _. ⊥) [
      | inl l ↦ (let end = past_end (entries s.fields) k is in clean j (omega (arith, end)) y broken)
      | inr r ↦ (let none = slice_get_past (entries s.fields) j r in absurd (cc (none, broken.1.0)))
    ]
clean_from limits s k (e ∷ rest) b c is so clean h =
    let head = head_at (entries s.fields) k e rest is in
    by_fault (fault_at limits b e) refl (λ none q. clean_from limits s (suc k) rest (after b e) c head.behind (so_here limits s k e rest b
    head so none)
    (clean_here limits s k e rest b head so clean none) q) h
  where
    by_fault : (o : Option SchemaFault) → fault_at limits b e ≡ o
        → (fault_at limits b e ≡ None → scan limits (after b e) rest ≡ Ok c → (j : ℕ) (y : SchemaFault) → ¬ BreaksAt limits s j y)
        → unless_at o (scan limits (after b e) rest) ≡ Ok c → (j : ℕ) (y : SchemaFault) → ¬ BreaksAt limits s j y
    by_fault None none later q = later none q
    by_fault (Some y) some later q = cc

-- ---- a schema

start_so_far : (s : Schema) → SoFar s [] (at_start s.metadata)
start_so_far s = record { fields = refl; text = omega arith; pairs = omega arith; known = λ id k h. cc; kept = λ a none. absurd none }

none_yet : (limits : Limits) (s : Schema) → AreClean limits s 0
none_yet limits s j l = absurd (omega arith)

-- the fault in a schema's verdict is the one at which the scan of its entries stopped
pub done_err : (r : Result Before SchemaFault) (x : SchemaFault) → done r ≡ Err x → r ≡ Err x
done_err (Ok b) x h = cc
done_err (Err e) x h = let same : e ≡ x = cc in ap Err same

start_both : (limits : Limits) (s : Schema) → (is_little_text limits (at_start s.metadata) ≡ false) ↔ ExceedsTextLimits limits s []
start_both limits s = little_both limits s [] (at_start s.metadata) (omega arith) (omega arith)

first_from_verdict : {limits : Limits} → (s : Schema) (x : SchemaFault) → verdict_on limits s ≡ Err x → IsFirstFault limits s x
first_from_verdict {limits} s x h = by_start (is_little_text limits (at_start s.metadata)) refl h
  where
    by_start : (c : Bool) → is_little_text limits (at_start s.metadata) ≡ c
        → (if c then done (scan limits (at_start s.metadata) (entries s.fields)) else Err (f.TooMuchText 0)) ≡ Err x
        → IsFirstFault limits s x
    by_start true is h = inr (
      λ much. absurd (false≢true (sym ((start_both limits s).1 much) ∙ is)),
      first_from s 0 (entries s.fields) (at_start s.metadata) refl (start_so_far s) (none_yet limits s) x (done_err _ x h),
    )
    by_start false is h = let same : f.TooMuchText 0 ≡ x = cc in inl ((start_both limits s).0 is, sym same)

-- ---- and back

rank_one : (x y : SchemaFault) → entry_number x ≡ entry_number y → rank x ≡ rank y → x ≡ y
rank_one (f.BadType m) (f.BadType n) e r = ap f.BadType e
rank_one (f.BadChildren m) (f.BadChildren n) e r = ap f.BadChildren e
rank_one (f.TooManyFields m) (f.TooManyFields n) e r = ap f.TooManyFields e
rank_one (f.TooDeep m) (f.TooDeep n) e r = ap f.TooDeep e
rank_one (f.TooMuchText m) (f.TooMuchText n) e r = ap f.TooMuchText e
rank_one (f.DictionaryConflict m) (f.DictionaryConflict n) e r = ap f.DictionaryConflict e
rank_one (f.NestedDictionary m) (f.NestedDictionary n) e r = ap f.NestedDictionary e
rank_one f.OutOfMemory f.OutOfMemory e r = refl
rank_one _ _ e r = absurd (omega arith)

one_first : {limits : Limits} → (s : Schema) (j k : ℕ) (x y : SchemaFault) → IsFirstAt limits s j x → IsFirstAt limits s k y → x ≡ y
one_first {limits} s j k x y a b =
    elim (cases_order j k) as (λ _. x ≡ y) [
      | inl same ↦
          (let over = a.reported_first y (subst (λ (i : ℕ). BreaksAt limits s i y) (sym same) b.broken) in
          let under = b.reported_first x (subst (λ (i : ℕ). BreaksAt limits s i x) same a.broken) in
          rank_one x y (omega (arith, a.number, b.number, same)) (omega (arith, over, under)))
      | inr r ↦ elim r as (λ _. x ≡ y) [ inl m ↦ absurd (b.none_before j m x a.broken) | inr m ↦ absurd (a.none_before k m y b.broken) ]
    ]

-- the first fault of a schema, by the order of its entries, is the one in its verdict
pub verdict_from_first : {limits : Limits} → (s : Schema) (x : SchemaFault) → IsFirstFault limits s x → verdict_on limits s ≡ Err x
verdict_from_first {limits} s x h = by_start (is_little_text limits (at_start s.metadata)) refl
  where
    by_scan : ¬ ExceedsTextLimits limits s [] → (r : Result Before SchemaFault) → scan limits (at_start s.metadata) (entries s.fields) ≡ r
        → done r ≡ Err x
    by_scan little (Ok b) is =
        ⊎_elim (λ (own : ExceedsTextLimits limits s [] × (x ≡ f.TooMuchText 0)). absurd (little own.0))
        (λ (at : ¬ ExceedsTextLimits limits s [] × ((k : ℕ) × IsFirstAt limits s k x)). absurd
        (clean_from limits s 0 (entries s.fields) (at_start s.metadata) b refl (start_so_far s) (none_yet limits s) is at.1.0 x
        at.1.1.broken)) h
    by_scan little (Err y) is =
        let q = first_from s 0 (entries s.fields) (at_start s.metadata) refl (start_so_far s) (none_yet limits s) y is in
        ⊎_elim (λ (own : ExceedsTextLimits limits s [] × (x ≡ f.TooMuchText 0)). absurd (little own.0))
        (λ (at : ¬ ExceedsTextLimits limits s [] × ((k : ℕ) × IsFirstAt limits s k x)). ap Err (one_first s q.0 at.1.0 y x q.1 at.1.1)) h

    by_start : (c : Bool) → is_little_text limits (at_start s.metadata) ≡ c
        → (if c then done (scan limits (at_start s.metadata) (entries s.fields)) else Err (f.TooMuchText 0)) ≡ Err x
    by_start true is = by_scan (λ much. absurd (false≢true (sym ((start_both limits s).1 much) ∙ is)))
        (scan limits (at_start s.metadata) (entries s.fields)) refl
    by_start false is =
        ⊎_elim (λ (own : ExceedsTextLimits limits s [] × (x ≡ f.TooMuchText 0)). ap Err (sym own.1))
        (λ (at : ¬ ExceedsTextLimits limits s [] × ((k : ℕ) × IsFirstAt limits s k x)). absurd (at.0 ((start_both limits s).0 is))) h

-- what the check tells
pub tells_first : (limits : Limits) (s : Schema) (r : Result Unit SchemaFault) → IfErr r (λ e. (e ≡ f.OutOfMemory)
    ⊎ (verdict_on limits s ≡ Err e))
    → IfErr r (λ e. (e ≡ f.OutOfMemory) ⊎ IsFirstFault limits s e)
tells_first limits s (Ok x) h = h
tells_first limits s (Err e) h = ⊎_elim inl (λ is. inr (first_from_verdict s e is)) h
