-- Where a schema that was read is not well formed, the fault's cause is true of the metadata.
use Rattle.std.proofs.Common.{◌≡◌, ◌∙◌, refl, sym, ap, subst, ℕ, ◌+◌, ◌^◌, Bool, true, false, not, ◌||◌, List, [], ◌∷◌, ◌⊎◌, inl, inr}
use Rattle.std.proofs.Common.{⊎_elim, ◌≤◌, ◌<◌, ◌&&◌, length, arith}
use Rattle.std.specs.Prelude.{sum_by, ℤ, ◌-◌, nat_le, Option, None, Some, is_some, Ok, Err}
use Rattle.std.specs.List.{AllByRecursion}
use Rattle.std.specs.Ordering.{int_eq}
use Rattle.std.proofs.lemmas.Bool.Decides.{nat_tests, Decides-int_eq, Decides-eqb}
use Rattle.ipc_flat.specs.Views.{TableView}
use Rattle.ipc_model.specs.Entries.{Entry, entries}
use Rattle.ipc_model.specs.WellFormed.{HasGoodType, HasFittingChildren, IsLeaf}
use Rattle.ipc_model.proofs.FirstFaults.{done_err, verdict_from_first}
use Rattle.ipc_model.specs.FirstFault.{IsFirstFault}
use Rattle.ipc_model.specs.SchemaFaults.{Before, after, scan, unless_at, fault_at, has_good_type, has_fitting_children, has_leaf_dictionary}
use Rattle.ipc_model.specs.SchemaFaults.{is_leaf, is_little_text, same_type, agrees, has_conflict, with_kind, at_start, verdict_on}
use Rattle.ipc_model.specs.Refusals.{reader_fault}
use Rattle.ipc_model.specs.declared.check.SchemaFault.{SchemaFault}
use Rattle.ipc_model.specs.declared.check.SchemaFault.TheVariants as check
use Rattle.ipc_model.specs.declared.schema.DataType.{DataType}
use Rattle.ipc_model.specs.declared.schema.DataType.TheVariants as t
use Rattle.ipc_model.specs.declared.schema.Dictionary.{Dictionary}
use Rattle.ipc_model.specs.declared.schema.Schema.{Schema}
use Rattle.ipc_model.proofs.SameTypes.{same_itself}
use Rattle.ipc_meta.specs.Fields.{VectorAt, IsEncodedAs, FieldAt}
use Rattle.ipc_meta.specs.Reached.{schema, HasTable}
use Rattle.ipc_meta.specs.Causes.{HasDictionaryColumn, Cause, in_schema}
use Rattle.ipc_meta.proofs.GoodTypes.{good_type}
use Rattle.ipc_meta.proofs.Entries.{StatesEntry, entries_told}
use Rattle.ipc_meta.proofs.Totals.{Totals, schema_totals}
use Rattle.ipc_meta.proofs.Sound.{fields_sound, field_sound}
use Rattle.ipc_meta.specs.declared.budget.Budget.{Budget}
use Rattle.ipc_meta.specs.Reading.{pairs_read, fields_read, field_read}
use Rattle.ipc_meta.specs.Totals.{total_fields, total_text, total_pairs}
use Rattle.std.proofs.lemmas.List.Sums.{sum_by-cons}
use Rattle.ipc_model.specs.declared.limits.Limits.{Limits}
use Rattle.ipc_meta.proofs.Binds.{choose}

-- ---- the tests of one field

is_false : (c : Bool) → not c ≡ true → c ≡ false
is_false true h = cc
is_false false h = refl

good_test : (κ : DataType) → has_good_type κ ≡ false → HasGoodType κ → ⊥
good_test (t.FixedSizeBinary n) h good = let fits : nat_le n (2 ^ 31 - 1) ≡ true = grind (arith, nat_tests) in cc
good_test (t.FixedSizeList n) h good = let fits : nat_le n (2 ^ 31 - 1) ≡ true = grind (arith, nat_tests) in cc
good_test _ h good = cc

fitting_test : (κ : DataType) (n : ℕ) → has_fitting_children κ n ≡ false → HasFittingChildren κ n → ⊥
fitting_test t.List n h fit = let is = (Decides-eqb n 1).1 fit in cc
fitting_test (t.FixedSizeList size) n h fit = let is = (Decides-eqb n 1).1 fit in cc
fitting_test t.Struct n h fit = cc
fitting_test _ n h fit = let is = (Decides-eqb n 0).1 fit in cc

leaf_test : (κ : DataType) → is_leaf κ ≡ false → IsLeaf κ → ⊥
leaf_test t.List h leaf = leaf
leaf_test (t.FixedSizeList n) h leaf = leaf
leaf_test t.Struct h leaf = leaf
leaf_test _ h leaf = cc

-- a dictionary's types so far are those of the metadata
abbrev AreEncoded : List ℕ → (ℤ → Option DataType) → Type 0
AreEncoded b kinds = (id : ℤ) (κ : DataType) → kinds id ≡ Some κ → HasDictionaryColumn b id κ

encoded : (b : List ℕ) (s : TableView) (e : Entry) (d : Dictionary) → StatesEntry b s e → e.dictionary ≡ Some d
    → HasDictionaryColumn b d.id e.kind
encoded b s e d h is = (h.table, h.has, (h.kind, (d, subst (λ o. IsEncodedAs o h.table) is h.dictionary, refl)))

encoded_after : (b : List ℕ) (s : TableView) (kinds : ℤ → Option DataType) (e : Entry) → StatesEntry b s e → AreEncoded b kinds
    → AreEncoded b (with_kind kinds e.dictionary e.kind)
encoded_after b s kinds e h all = go e.dictionary refl
  where
    go : (o : Option Dictionary) → e.dictionary ≡ o → AreEncoded b (with_kind kinds o e.kind)
    go None is id κ k = all id κ k
    go (Some d) is id κ k =
        choose (int_eq d.id id) _ _ _ k
        (λ same k. let type : e.kind ≡ κ = cc in let one : d.id
        ≡ id = (Decides-int_eq d.id id).0 same in subst (λ n. HasDictionaryColumn b n κ) one
        (subst (HasDictionaryColumn b d.id) type (encoded b s e d h is)))
        (λ other k. all id κ k)

conflict : (limits : Limits) (b : List ℕ) (s : TableView) (kinds : ℤ → Option DataType) (e : Entry) → StatesEntry b s e
    → AreEncoded b kinds
    → has_conflict kinds e.dictionary e.kind ≡ true → Cause limits b (reader_fault (check.DictionaryConflict 0))
conflict limits b s kinds e h all = go e.dictionary refl
  where
    go : (o : Option Dictionary) → e.dictionary ≡ o → has_conflict kinds o e.kind ≡ true
        → Cause limits b (reader_fault (check.DictionaryConflict 0))
    go None is k = cc
    go (Some d) is k = earlier (kinds d.id) refl (is_false _ k)
      where
        earlier : (o : Option DataType) → kinds d.id ≡ o → agrees o e.kind ≡ false
            → Cause limits b (reader_fault (check.DictionaryConflict 0))
        earlier None at k = cc
        earlier (Some first) at k = (
          d.id,
          first,
          e.kind,
          all d.id first at,
          encoded b s e d h is,
          λ same. let one : same_type first first ≡ false = subst (λ κ. same_type first κ ≡ false) (sym same) k in let two =
              same_itself first in cc,
        )

nested : (limits : Limits) (b : List ℕ) (s : TableView) (e : Entry) → StatesEntry b s e → has_leaf_dictionary e ≡ false
    → Cause limits b (reader_fault (check.NestedDictionary 0))
nested limits b s e h = go e.dictionary refl
  where
    go : (o : Option Dictionary) → e.dictionary ≡ o → not (is_some o) || is_leaf e.kind ≡ false
        → Cause limits b (reader_fault (check.NestedDictionary 0))
    go None is k = cc
    go (Some d) is k = (d.id, e.kind, encoded b s e d h is, leaf_test e.kind k)

-- ---- the scan

-- what the fields before have with these ones is no more than the Schema table states
record Within (limits : Limits) (s : TableView) (a : Before) (es : List Entry) : Type 0 where
  fields : a.fields + length es ≤ total_fields limits s
  text : a.text + sum_by (λ e. e.text) es ≤ total_text limits s
  pairs : a.pairs + sum_by (λ e. e.pairs) es ≤ total_pairs limits s

within_after : {limits : Limits} → (s : TableView) (a : Before) (e : Entry) (es : List Entry) → Within limits s a (e ∷ es)
    → Within limits s (after a e) es
within_after s a e es w =
    let text = sum_by-cons (λ (e : Entry). e.text) e es in
    let pairs = sum_by-cons (λ (e : Entry). e.pairs) e es in
    record { fields = omega (arith, w.fields); text = omega (arith, w.text, text); pairs = omega (arith, w.pairs, pairs) }

too_much : (limits : Limits) (a : Before) → is_little_text limits a ≡ false → (limits.text < a.text) ⊎ (limits.pairs < a.pairs)
too_much limits a h = go (nat_le a.text limits.text) refl h
  where
    go : (c : Bool) → nat_le a.text limits.text ≡ c → (c && nat_le a.pairs limits.pairs) ≡ false → (limits.text < a.text)
        ⊎ (limits.pairs < a.pairs)
    go true is h = inr (grind (arith, nat_tests))
    go false is h = inl (grind (arith, nat_tests))

text_refused : {limits : Limits} → (b : List ℕ) (s : TableView) (a : Before) → HasTable b schema s → Within limits s a []
    → is_little_text limits a ≡ false
    → Cause limits b (reader_fault (check.TooMuchText 0))
text_refused {limits} b s a hs w h = in_schema (
  s,
  hs,
  ⊎_elim (λ m. inl (let t = w.text in omega (arith, m, t)))
      (λ m. inr (let p = w.pairs in omega (arith, m, p))) (too_much limits a h),
)

entry_refused : {limits : Limits} → (b : List ℕ) (s : TableView) (a : Before) (e : Entry) (x : SchemaFault) → HasTable b schema s
    → StatesEntry b s e
    → AreEncoded b a.kinds → Within limits s (after a e) [] → fault_at limits a e ≡ Some x → Cause limits b (reader_fault x)
entry_refused {limits} b s a e x hs h all w k =
    choose (not (has_good_type e.kind)) _ _ _ k
    (λ i k. absurd (good_test e.kind (is_false _ i) (good_type h.table e.kind h.kind))) (λ i k.
    choose (not (has_fitting_children e.kind e.children)) _ _ _ k
    (λ i k. let same : check.BadChildren (a.fields + 1) ≡ x = cc in
    let fits : has_fitting_children e.kind h.elements.len ≡ false = rw h.many (is_false _ i) in
    report same (h.table, h.has, (e.kind, h.elements, h.kind, h.vector, fitting_test e.kind h.elements.len fits))) (λ i k.
    choose (not (nat_le (a.fields + 1) limits.fields)) _ _ _ k
    (λ i k. let same : check.TooManyFields (a.fields + 1) ≡ x = cc in
    let few : nat_le (a.fields + 1) limits.fields ≡ false = is_false _ i in
    let more : limits.fields < a.fields + 1 = grind (arith, nat_tests) in
    let all = w.fields in
    report same (s, hs, omega (arith, more, all))) (λ i k.
    choose (not (nat_le e.depth limits.depth)) _ _ _ k
    (λ i k. let same : check.TooDeep (a.fields + 1) ≡ x = cc in
    let shallow : nat_le e.depth limits.depth ≡ false = is_false _ i in
    let deeper : limits.depth < e.depth = grind (arith, nat_tests) in
    report same (s, hs, (h.table, e.depth, deeper, h.deep))) (λ i k.
    choose (not (is_little_text limits (after a e))) _ _ _ k
    (λ i k. let same : check.TooMuchText (a.fields + 1) ≡ x = cc in report same (text_refused b s (after a e) hs w (is_false _ i))) (λ i k.
    choose (has_conflict a.kinds e.dictionary e.kind) _ _ _ k
    (λ i k. let same : check.DictionaryConflict (a.fields + 1) ≡ x = cc in report same (conflict limits b s a.kinds e h all i)) (λ i k.
    choose (not (has_leaf_dictionary e)) _ _ _ k
    (λ i k. let same : check.NestedDictionary (a.fields + 1) ≡ x = cc in report same (nested limits b s e h (is_false _ i)))
    (λ i k. absurd (cc))))))))
  where
    report : {y : SchemaFault} → y ≡ x → Cause limits b (reader_fault y) → Cause limits b (reader_fault x)
    report same cause = subst (λ y. Cause limits b (reader_fault y)) same cause

scan_refused : {limits : Limits} → (b : List ℕ) (s : TableView) (es : List Entry) (a : Before) (x : SchemaFault) → HasTable b schema s
    → AllByRecursion (StatesEntry b s) es → AreEncoded b a.kinds → Within limits s a es → scan limits a es ≡ Err x
    → Cause limits b (reader_fault x)
scan_refused {limits} b s [] a x hs h all w k = absurd (cc)
scan_refused {limits} b s (e ∷ es) a x hs h all w k =
    go (fault_at limits a e) refl (λ k. scan_refused b s es (after a e) x hs h.1 (encoded_after b s a.kinds e h.0 all) next k) k
  where
    next : Within limits s (after a e) es
    next = within_after s a e es w

    here : Within limits s (after a e) []
    here = record {
      fields = let n = next.fields in omega arith;
      text = let n = next.text in omega arith;
      pairs = let n = next.pairs in omega arith;
    }

    go : (o : Option SchemaFault) → fault_at limits a e ≡ o → (scan limits (after a e) es ≡ Err x → Cause limits b (reader_fault x))
        → unless_at o (scan limits (after a e) es) ≡ Err x → Cause limits b (reader_fault x)
    go None is later k = later k
    go (Some y) is later k = let same : y ≡ x =
        cc in subst (λ y. Cause limits b (reader_fault y)) same (entry_refused b s a e y hs h.0 all here is)

schema_refused : {limits : Limits} → (b : List ℕ) (t : TableView) (s : Schema) (x : SchemaFault) → HasTable b schema t
    → VectorAt FieldAt s.fields t 1
    → Totals limits t s.fields s.metadata → verdict_on limits s ≡ Err x → Cause limits b (reader_fault x)
schema_refused {limits} b t s x has h totals k =
    let own = at_start s.metadata in
    let text = totals.text in
    let pairs = totals.pairs in
    choose (is_little_text limits own) _ _ _ k
    (λ i k. scan_refused {limits = limits} b t (entries s.fields) own x has (entries_told b t s.fields has h) (λ id κ bad. absurd (cc))
    (record { fields = omega (arith, totals.fields); text = omega (arith, text); pairs = omega (arith, pairs) }) (done_err _ x k))
    (λ i k. let same : check.TooMuchText 0 ≡ x = cc in
    subst (λ y. Cause limits b (reader_fault y)) same
    (text_refused {limits = limits} b t own has (record {
      fields = omega arith;
      text = omega (arith, text);
      pairs =
          omega (arith, pairs);
    }) i))

-- the check's refusal, as the call that reads tells it
pub check_refused : {limits : Limits} → (b : List ℕ) (t : TableView) (s : Schema) (x : SchemaFault) (l m n : Budget) → HasTable b schema t
    → pairs_read t 2 l ≡ Ok (s.metadata, m) → fields_read (field_read limits.depth) t 1 m ≡ Ok (s.fields, n)
    → (x ≡ check.OutOfMemory) ⊎ IsFirstFault limits s x → (reader_fault x ≡ reader_fault check.OutOfMemory → ⊥)
    → Cause limits b (reader_fault x)
check_refused {limits} b t s x l m n has p q k ne =
    ⊎_elim (λ is. absurd (ne (ap reader_fault is)))
    (λ first. schema_refused {limits = limits} b t s x has (fields_sound (field_read limits.depth) (field_sound limits.depth) t 1 m n
    s.fields q)
    (schema_totals {limits = limits} t l m n s.fields s.metadata p q) (verdict_from_first s x first)) k
