-- The entries of a schema are those of its dictionaries.
use Rattle.std.proofs.Common.{◌≡◌, ℕ, ◌<◌, ◌≤◌, ◌+◌, ◌||◌, Bool, true, false, cond, ℤ, List, [], ◌∷◌, ◌++◌, length}
use Rattle.std.proofs.Common.{Option, Some, None, refl, sym, ap, subst, ◌∙◌, arith, int_eq, true≢false}
use Rattle.std.specs.Prelude.{min}
use Rattle.std.specs.Option.{IsSome}
use Rattle.std.specs.List.{AllByRecursion, list_any}
use Rattle.std.proofs.lemmas.List.Quantifiers.{position-Some}
use Rattle.std.proofs.lemmas.Bool.Decides.{Decides-int_eq}
use Rattle.ipc_model.specs.declared.value.Value.{Value}
use Rattle.ipc_model.specs.declared.schema.Dictionary.{Dictionary}
use Rattle.ipc_dict.specs.declared.entry.TallyEntry.{TallyEntry}
use Rattle.ipc_dict.specs.Noting.{values_noted_for}
use Rattle.ipc_dict.specs.SchemaIds.{index_capacity, fresh, with_field, with_fields, of_fields}
use Rattle.ipc_dict.specs.SchemaEntries.{first_place, counts_for, least, AreInOrder, AreEntries, AreOfSchema}
use Rattle.ipc_dict.proofs.Places.{position-append, position-end}
use Rattle.ipc_dict.proofs.ids.SchemaIds.{lowered}

-- ---- one more dictionary

append-end : {X : Type 0} (xs : List X) (y : X) (ys : List X) → xs ++ y ∷ ys ≡ (xs ++ y ∷ []) ++ ys
append-end [] y ys = refl
append-end (x ∷ xs) y ys = ap (λ l. x ∷ l) (append-end xs y ys)

least-end : (ns : List ℕ) (n : ℕ) → least (ns ++ n ∷ []) ≡ min (least ns) n
least-end [] n = omega arith
least-end (m ∷ ns) n = omega (arith, least-end ns n)

module _ (d : Dictionary) (id : ℤ) where
  counts-one : (ds : List Dictionary) → int_eq d.id id ≡ true → counts_for (ds ++ d ∷ []) id ≡ counts_for ds id ++ index_capacity d ∷ []
  counts-one [] h = ap (λ b. cond b (index_capacity d ∷ []) []) h
  counts-one (x ∷ ds) h =
      elim (int_eq x.id id) as (λ b. cond b (index_capacity x ∷ counts_for (ds ++ d ∷ []) id) (counts_for (ds ++ d ∷ []) id)
      ≡ cond b (index_capacity x ∷ counts_for ds id) (counts_for ds id) ++ index_capacity d ∷ [])
      [ true ↦ ap (λ l. index_capacity x ∷ l) (counts-one ds h) | false ↦ counts-one ds h ]

  counts-other : (ds : List Dictionary) → int_eq d.id id ≡ false → counts_for (ds ++ d ∷ []) id ≡ counts_for ds id
  counts-other [] h = ap (λ b. cond b (index_capacity d ∷ []) []) h
  counts-other (x ∷ ds) h =
      ap (λ l. cond (int_eq x.id id) (index_capacity x ∷ l) l) (counts-other ds h)

counts-none : (ds : List Dictionary) (id : ℤ) → list_any (λ d. int_eq d.id id) ds ≡ false → counts_for ds id ≡ []
counts-none [] id h = refl
counts-none (x ∷ ds) id h = by (counts-none ds id) (int_eq x.id id) h
  where
    by : (list_any (λ d. int_eq d.id id) ds ≡ false → counts_for ds id ≡ []) → (b : Bool) → (b || list_any (λ d. int_eq d.id id) ds) ≡ false
        → cond b (index_capacity x ∷ counts_for ds id) (counts_for ds id) ≡ []
    by rest true h = absurd (true≢false h)
    by rest false h = rest h

one-place : (i j : ℕ) (o : Option ℕ) → o ≡ Some i → o ≡ Some j → i ≡ j
one-place i j o p q = let e : Some i ≡ Some j = sym p ∙ q in cc

same-id : (x y : ℤ) → int_eq x y ≡ true → int_eq y x ≡ true
same-id x y h = (Decides-int_eq y x).1 (sym ((Decides-int_eq x y).0 h))

other-id : (x y : ℤ) → int_eq x y ≡ false → int_eq y x ≡ false
other-id x y h = by (int_eq y x) refl
  where
    by : (b : Bool) → int_eq y x ≡ b → b ≡ false
    by false e = refl
    by true e = absurd (true≢false (sym (same-id y x e) ∙ h))

module _ (ds : List Dictionary) (d : Dictionary) where
  more-place : (id : ℤ) (k : ℕ) → first_place ds id ≡ Some k → first_place (ds ++ d ∷ []) id ≡ Some k
  more-place id k at = position-append (λ x. int_eq x.id id) ds (d ∷ []) k at

  -- entries behind that of the id keep what they have
  more : (from k : ℕ) (es : List TallyEntry) → first_place ds d.id ≡ Some k → k < from → AreInOrder ds from es
      → AreInOrder (ds ++ d ∷ []) from es
  more from k [] at behind h = tt
  more from k (e ∷ es) at behind (m, (low, (place, (limit, (none, rest))))) = (
    m,
    (
      low,
      (
        more-place e.id m place,
        (
          limit ∙ ap least (sym (counts-other d e.id ds apart)),
          (none, more (m + 1) k es at (omega arith) rest),
        ),
      ),
    ),
  )
    where
      apart : int_eq d.id e.id ≡ false
      apart = by (int_eq d.id e.id) refl
        where
          by : (b : Bool) → int_eq d.id e.id ≡ b → b ≡ false
          by false q = refl
          by true q =
              let there : first_place ds e.id ≡ Some k = ap (first_place ds) (sym ((Decides-int_eq d.id e.id).0 q)) ∙ at in
              absurd (omega (arith, one-place k m (first_place ds e.id) there place))

  ordered : (from : ℕ) (es : List TallyEntry) → from ≤ length ds → (list_any (λ x. int_eq x.id d.id) ds ≡ true
      → IsSome (values_noted_for es d.id))
      → AreInOrder ds from es → AreInOrder (ds ++ d ∷ []) from (with_field es d)
  ordered from [] short known h = by (list_any (λ x. int_eq x.id d.id) ds) refl
    where
      mine : int_eq d.id d.id ≡ true
      mine = (Decides-int_eq d.id d.id).1 refl

      by : (b : Bool) → list_any (λ x. int_eq x.id d.id) ds ≡ b → AreInOrder (ds ++ d ∷ []) from (fresh d ∷ [])
      by true e = absurd (true≢false (sym (known e)))
      by false e = (
        length ds,
        (
          short,
          (
            position-end (λ x. int_eq x.id d.id) ds d e mine,
            (
              omega (arith, ap least (counts-one d d.id ds mine ∙ ap (λ l. l ++ index_capacity d ∷ []) (counts-none ds d.id e))),
              (refl, tt),
            ),
          ),
        ),
      )
  ordered from (e ∷ es) short known (k, (low, (place, (limit, (none, rest))))) =
      let in_bounds : k < length ds = (position-Some (λ x. int_eq x.id e.id) ds k d place).0 in
      by (λ known. ordered (k + 1) es (omega (arith, in_bounds)) known rest) (int_eq e.id d.id) refl known
    where
      by : ((list_any (λ x. int_eq x.id d.id) ds ≡ true → IsSome (values_noted_for es d.id))
          → AreInOrder (ds ++ d ∷ []) (k + 1) (with_field es d))
          → (b : Bool) → int_eq e.id d.id ≡ b
          → (list_any (λ x. int_eq x.id d.id) ds ≡ true → IsSome (cond b (Some e.values) (values_noted_for es d.id)))
          → AreInOrder (ds ++ d ∷ []) from (cond b (lowered d e ∷ es) (e ∷ with_field es d))
      by later true q known =
          let at : first_place ds d.id ≡ Some k = ap (first_place ds) (sym ((Decides-int_eq e.id d.id).0 q)) ∙ place in (
            k,
            (
              low,
              (
                more-place e.id k place,
                (
                  omega (
                    arith,
                    limit,
                    least-end (counts_for ds e.id) (index_capacity d),
                    ap least (counts-one d e.id ds (same-id e.id d.id q)),
                  ),
                  (none, more (k + 1) k es at (omega arith) rest),
                ),
              ),
            ),
          )
      by later false q known = (
        k,
        (
          low,
          (
            more-place e.id k place,
            (
              limit ∙ ap least (sym (counts-other d e.id ds (other-id e.id d.id q))),
              (none, later known),
            ),
          ),
        ),
      )

-- ---- each has its entry

some-with_field : (es : List TallyEntry) (d : Dictionary) (id : ℤ) → IsSome (values_noted_for es id)
    → IsSome (values_noted_for (with_field es d) id)
some-with_field [] d id h = absurd (true≢false (sym h))
some-with_field (e ∷ es) d id h = by (some-with_field es d id) (int_eq e.id d.id) (int_eq e.id id) refl h
  where
    by : (IsSome (values_noted_for es id) → IsSome (values_noted_for (with_field es d) id)) → (b c : Bool) → int_eq e.id id ≡ c
        → IsSome (cond c (Some e.values) (values_noted_for es id))
        → IsSome (values_noted_for (cond b (lowered d e ∷ es) (e ∷ with_field es d)) id)
    by rest true c q h = subst (λ x. IsSome (cond x (Some e.values) (values_noted_for es id))) (sym q) h
    by rest false true q h = subst (λ x. IsSome (cond x (Some e.values) (values_noted_for (with_field es d) id))) (sym q) refl
    by rest false false q h = subst (λ x. IsSome (cond x (Some e.values) (values_noted_for (with_field es d) id))) (sym q) (rest h)

own-with_field : (es : List TallyEntry) (d : Dictionary) → IsSome (values_noted_for (with_field es d) d.id)
own-with_field [] d = subst (λ b. IsSome {T = List Value} (cond b (Some []) None)) (sym ((Decides-int_eq d.id d.id).1 refl)) refl
own-with_field (e ∷ es) d = by (own-with_field es d) (int_eq e.id d.id) refl
  where
    by : IsSome (values_noted_for (with_field es d) d.id) → (b : Bool) → int_eq e.id d.id ≡ b
        → IsSome (values_noted_for (cond b (lowered d e ∷ es) (e ∷ with_field es d)) d.id)
    by rest true q = subst (λ x. IsSome (cond x (Some e.values) (values_noted_for es d.id))) (sym q) refl
    by rest false q = subst (λ x. IsSome (cond x (Some e.values) (values_noted_for (with_field es d) d.id))) (sym q) rest

all-with_field : (es : List TallyEntry) (d : Dictionary) (ds : List Dictionary) → AllByRecursion (λ x. IsSome (values_noted_for es x.id)) ds
    → AllByRecursion (λ x. IsSome (values_noted_for (with_field es d) x.id)) (ds ++ d ∷ [])
all-with_field es d [] h = (own-with_field es d, tt)
all-with_field es d (x ∷ ds) h = (some-with_field es d x.id h.0, all-with_field es d ds h.1)

known-id : (es : List TallyEntry) (id : ℤ) (ds : List Dictionary) → AllByRecursion (λ x. IsSome (values_noted_for es x.id)) ds
    → list_any (λ x. int_eq x.id id) ds ≡ true → IsSome (values_noted_for es id)
known-id es id [] h there = absurd (true≢false (sym there))
known-id es id (x ∷ ds) h there = by (known-id es id ds h.1) (int_eq x.id id) refl there
  where
    by : (list_any (λ y. int_eq y.id id) ds ≡ true → IsSome (values_noted_for es id)) → (b : Bool) → int_eq x.id id ≡ b
        → (b || list_any (λ y. int_eq y.id id) ds) ≡ true → IsSome (values_noted_for es id)
    by rest true q t = subst (λ z. IsSome (values_noted_for es z)) ((Decides-int_eq x.id id).0 q) h.0
    by rest false q t = rest t

-- ---- all of them

entries-step : (ds : List Dictionary) (d : Dictionary) (es : List TallyEntry) → AreEntries ds es
    → AreEntries (ds ++ d ∷ []) (with_field es d)
entries-step ds d es h = record {
  ordered = ordered ds d 0 es (omega arith) (known-id es d.id ds h.all) h.ordered;
  all = all-with_field es d ds h.all;
}

entries-all : (done ds : List Dictionary) (es : List TallyEntry) → AreEntries done es → AreEntries (done ++ ds) (with_fields es ds)
entries-all done [] es h = subst (λ l. AreEntries l es) (sym (append-nothing done)) h
  where
    append-nothing : (l : List Dictionary) → l ++ [] ≡ l
    append-nothing [] = refl
    append-nothing (x ∷ l) = ap (λ m. x ∷ m) (append-nothing l)
entries-all done (d ∷ ds) es h =
    subst (λ l. AreEntries l (with_fields (with_field es d) ds)) (sym (append-end done d ds))
    (entries-all (done ++ d ∷ []) ds (with_field es d) (entries-step done d es h))

pub are_of_schema : AreOfSchema
are_of_schema fields = entries-all [] (of_fields fields) [] (record { ordered = tt; all = tt })
