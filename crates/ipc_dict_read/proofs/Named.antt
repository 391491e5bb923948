-- What the entries of fields say of the columns that their dictionaries are read by, and back.
use Rattle.std.proofs.Common.{◌≡◌, ◌≢◌, refl, sym, ◌∙◌, subst, ℕ, ◌+◌, ◌≤◌, ℤ, true, false, cond, List, [], ◌∷◌, ◌++◌, map}
use Rattle.std.proofs.Common.{length, int_eq, Option, Some, None, arith, length-append}
use Rattle.std.specs.List.{AllByRecursion}
use Rattle.std.proofs.lemmas.Bool.Decides.{Decides-int_eq}
use Rattle.ipc_model.specs.Entries.{Entry, Listing, all_at, entries, entry_of, preorder, preorder_step}
use Rattle.ipc_model.specs.declared.schema.Dictionary.{Dictionary}
use Rattle.ipc_model.specs.declared.schema.Field.{Field, roll-Field, ind-Field, fold-roll-Field, map-Field}
use Rattle.ipc_model.specs.declared.schema.Field.TheOpen.{Field-F}
use Rattle.std.specs.List.{flat_map}
use Rattle.ipc_dict_read.specs.ValuesColumns.{Listed, own_columns, columns_step, field_dictionary_columns, dictionary_columns, columns_for}
use Rattle.ipc_dict_read.specs.ValuesColumns.{values_column}

module _ {A : Type 0} (P : A → Type 0) where
  all_both : (xs ys : List A) → AllByRecursion P xs → AllByRecursion P ys → AllByRecursion P (xs ++ ys)
  all_both [] ys h k = k
  all_both (x ∷ xs) ys h k = (h.0, all_both xs ys h.1 k)

  all_parts : (xs ys : List A) → AllByRecursion P (xs ++ ys) → AllByRecursion P xs × AllByRecursion P ys
  all_parts [] ys h = (tt, h)
  all_parts (x ∷ xs) ys h = let rest = all_parts xs ys h.1 in ((h.0, rest.0), rest.1)

-- ---- from the entries to the columns

module _ (Q : Entry → Type 0) (P : ℤ × List Field → Type 0)
    (gives : (e : Entry) (d : Dictionary) (name : List ℕ) → e.dictionary ≡ Some d → Q e → P (d.id, values_column name e.kind ∷ [])) where
  abbrev Gives : Field → Type 0
  Gives f = (depth : ℕ) → AllByRecursion Q (preorder f depth) → AllByRecursion P (field_dictionary_columns f)

  abbrev Giving : Type 0
  Giving = (f : Field) × Gives f

  own_given : {X : Type 0} (f : Field-F X) (e : Entry) (d : Option Dictionary) → e.dictionary ≡ d → e.kind ≡ f.kind → Q e
      → AllByRecursion P (own_columns f d)
  own_given f e None is same h = tt
  own_given f e (Some d) is same h = (subst (λ k. P (d.id, values_column f.name k ∷ [])) same (gives e d f.name is h), tt)

  below_given : (depth : ℕ) (cs : List Giving) → AllByRecursion Q (all_at depth (map preorder (map (λ c. c.0) cs)))
      → AllByRecursion P (flat_map (λ c. c) (map field_dictionary_columns (map (λ c. c.0) cs)))
  below_given depth [] h = tt
  below_given depth (c ∷ cs) h =
      let parts = all_parts Q (preorder c.0 depth) (all_at depth (map preorder (map (λ x. x.0) cs))) h in
      all_both P (field_dictionary_columns c.0) (flat_map (λ c. c) (map field_dictionary_columns (map (λ x. x.0) cs))) (c.1 depth parts.0)
      (below_given depth cs parts.1)

  layer_given : (y : Field-F Giving) → Gives (roll-Field (map-Field Giving Field (λ c. c.0) y))
  layer_given y depth h =
      let z : Field-F Field = map-Field Giving Field (λ c. c.0) y in
      let w : Field-F Listed = map-Field Field Listed field_dictionary_columns z in
      let v : Field-F Listing = map-Field Field Listing preorder z in
      let all = subst (λ (l : Listing). AllByRecursion Q (l depth)) (fold-roll-Field Listing preorder_step z) h in
      subst (AllByRecursion P) (sym (fold-roll-Field Listed columns_step z))
      (all_both P (own_columns w w.dictionary) (flat_map (λ c. c) w.children) (own_given w (entry_of v depth) w.dictionary refl refl all.0)
      (below_given (depth + 1) y.children all.1))

  given : (f : Field) → Gives f
  given = ind-Field Gives (λ x y is. subst (λ z. Gives (roll-Field z)) is (layer_given y))

  -- what the entries say of the columns
  pub all_given : (fields : List Field) → AllByRecursion Q (entries fields) → AllByRecursion P (dictionary_columns fields)
  all_given [] h = tt
  all_given (f ∷ fs) h =
      let parts = all_parts Q (preorder f 1) (all_at 1 (map preorder fs)) h in
      all_both P (field_dictionary_columns f) (dictionary_columns fs) (given f 1 parts.0) (all_given fs parts.1)

-- ---- from the columns to the entries

module _ (Q : Entry → Type 0) (P : ℤ × List Field → Type 0)
    (shows : (e : Entry) (d : Dictionary) (name : List ℕ) → e.dictionary ≡ Some d → P (d.id, values_column name e.kind ∷ []) → Q e)
    (plain : (e : Entry) → e.dictionary ≡ None → Q e) where
  abbrev Shows : Field → Type 0
  Shows f = AllByRecursion P (field_dictionary_columns f) → (depth : ℕ) → AllByRecursion Q (preorder f depth)

  abbrev Showing : Type 0
  Showing = (f : Field) × Shows f

  own_shown : {X : Type 0} (f : Field-F X) (e : Entry) (d : Option Dictionary) → e.dictionary ≡ d → e.kind ≡ f.kind
      → AllByRecursion P (own_columns f d) → Q e
  own_shown f e None is same h = plain e is
  own_shown f e (Some d) is same h = shows e d f.name is (subst (λ k. P (d.id, values_column f.name k ∷ [])) (sym same) h.0)

  below_shown : (depth : ℕ) (cs : List Showing) → AllByRecursion P (flat_map (λ c. c) (map field_dictionary_columns (map (λ c. c.0) cs)))
      → AllByRecursion Q (all_at depth (map preorder (map (λ c. c.0) cs)))
  below_shown depth [] h = tt
  below_shown depth (c ∷ cs) h =
      let parts = all_parts P (field_dictionary_columns c.0) (flat_map (λ c. c) (map field_dictionary_columns (map (λ x. x.0) cs))) h in
      all_both Q (preorder c.0 depth) (all_at depth (map preorder (map (λ x. x.0) cs))) (c.1 parts.0 depth) (below_shown depth cs parts.1)

  layer_shown : (y : Field-F Showing) → Shows (roll-Field (map-Field Showing Field (λ c. c.0) y))
  layer_shown y h depth =
      let z : Field-F Field = map-Field Showing Field (λ c. c.0) y in
      let w : Field-F Listed = map-Field Field Listed field_dictionary_columns z in
      let v : Field-F Listing = map-Field Field Listing preorder z in
      let all = subst (AllByRecursion P) (fold-roll-Field Listed columns_step z) h in
      let parts = all_parts P (own_columns w w.dictionary) (flat_map (λ c. c) w.children) all in
      subst (λ (l : Listing). AllByRecursion Q (l depth)) (sym (fold-roll-Field Listing preorder_step z))
      (own_shown w (entry_of v depth) w.dictionary refl refl parts.0, below_shown (depth + 1) y.children parts.1)

  shown : (f : Field) → Shows f
  shown = ind-Field Shows (λ x y is. subst (λ z. Shows (roll-Field z)) is (layer_shown y))

  -- what the columns say of the entries
  pub all_shown : (fields : List Field) → AllByRecursion P (dictionary_columns fields) → AllByRecursion Q (entries fields)
  all_shown [] h = tt
  all_shown (f ∷ fs) h =
      let parts = all_parts P (field_dictionary_columns f) (dictionary_columns fs) h in
      all_both Q (preorder f 1) (all_at 1 (map preorder fs)) (shown f parts.0 1) (all_shown fs parts.1)

-- ---- what is found for an id

-- this entry names another dictionary than the one with the id, or none
abbrev pub NamesOther : ℤ → Entry → Type 0
NamesOther id e = (d : Dictionary) → e.dictionary ≡ Some d → d.id ≢ id

abbrev Other : ℤ → ℤ × List Field → Type 0
Other id c = c.0 ≢ id

none_found : (cs : Listed) (id : ℤ) → AllByRecursion (Other id) cs → columns_for cs id ≡ None
none_found [] id h = refl
none_found (c ∷ cs) id h =
    elim (int_eq c.0 id) as (λ b. int_eq c.0 id ≡ b → cond b (Some c.1) (columns_for cs id) ≡ None) [
      | true ↦ λ is. absurd (h.0 ((Decides-int_eq c.0 id).0 is))
      | false ↦ λ is. none_found cs id h.1
    ] refl

all_other : (cs : Listed) (id : ℤ) → columns_for cs id ≡ None → AllByRecursion (Other id) cs
all_other [] id h = tt
all_other (c ∷ cs) id h =
    (elim (int_eq c.0 id) as (λ b. int_eq c.0 id ≡ b → cond b (Some c.1) (columns_for cs id) ≡ None
    → AllByRecursion (Other id) (c ∷ cs)) [
      | true ↦ λ is found. absurd (cc)
      | false ↦ λ is found. (
        λ same. let yes : int_eq c.0 id ≡ true = (Decides-int_eq c.0 id).1 same in absurd (cc),
        all_other cs id found,
      )
    ]) refl h

-- where no entry names the dictionary, it has no column
pub none_named : (fields : List Field) (id : ℤ) → AllByRecursion (NamesOther id) (entries fields)
    → columns_for (dictionary_columns fields) id ≡ None
none_named fields id h =
    none_found (dictionary_columns fields) id (all_given (NamesOther id) (Other id) (λ e d name is other. other d is) fields h)

-- where it has no column, no entry names it
pub names_other : (fields : List Field) (id : ℤ) → columns_for (dictionary_columns fields) id ≡ None
    → AllByRecursion (NamesOther id) (entries fields)
names_other fields id h =
    all_shown (NamesOther id) (Other id)
    (λ e d name is other f found. let same : d ≡ f = (let both : Some d ≡ Some f = sym is ∙ found in cc) in
    subst (λ x. x.id ≢ id) same other)
    (λ e none f found. let bad : Some f ≡ None = sym found ∙ none in absurd (cc)) fields (all_other (dictionary_columns fields) id h)

abbrev HasOne : Field → Type 0
HasOne f = (depth : ℕ) → 1 ≤ length (preorder f depth)

layer_one : (z : Field-F Field) → HasOne (roll-Field z)
layer_one z depth = subst (λ (l : Listing). 1 ≤ length (l depth)) (sym (fold-roll-Field Listing preorder_step z)) (omega arith)

one_entry : (f : Field) → HasOne f
one_entry = ind-Field HasOne (λ x y is. layer_one x)

-- where a dictionary has a column, there is a field
pub some_entry : (fields : List Field) (id : ℤ) (columns : List Field) → columns_for (dictionary_columns fields) id ≡ Some columns
    → 1 ≤ length (entries fields)
some_entry [] id columns found = absurd (cc)
some_entry (f ∷ fs) id columns found = omega (arith, length-append (preorder f 1) (all_at 1 (map preorder fs)), one_entry f 1)
