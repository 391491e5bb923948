-- The dictionaries that the fields of a schema name, and those that are kept.
use Rattle.std.proofs.Common.{◌≡◌, ◌∙◌, refl, sym, ap, subst, ℕ, ◌≤◌, ℤ, inl, inr, true, List, [], ◌∷◌, ◌++◌, map, length, Some, None}
use Rattle.std.proofs.Common.{Result, Ok, Err}
use Rattle.std.proofs.Common.{arith, ◌+◌, int_eq, cond, false}
use Rattle.std.specs.Prelude.{◌&&◌, IfOk}
use Rattle.ipc_model.specs.declared.fault.Fault.{Fault}
use Rattle.std.specs.Option.{IfSome}
use Rattle.std.proofs.lemmas.Bool.{and_parts}
use Rattle.std.proofs.lemmas.List.Sums.{sum_by-cons}
use Rattle.std.specs.List.{AllByRecursion, sum_by}
use Rattle.std.specs.Map.{values_of}
use Rattle.std.specs.Ordering.{int_cmp, match_ordering}
use Rattle.std.specs.declared.cmp.Ordering.TheVariants.{Less, Equal, Greater}
use Rattle.std.specs.BTreeMap.{BTreeMap, insert_entry}
use Rattle.std.specs.declared.sync.Arc.{Arc}
use Rattle.ipc_model.specs.Entries.{Entry, Listing, entries, preorder_step}
use Rattle.ipc_model.specs.WellFormed.{IsAmong, WellFormed}
use Rattle.ipc_model.specs.declared.limits.Limits.{Limits}
use Rattle.ipc_model.specs.declared.schema.DataType.{DataType}
use Rattle.ipc_model.specs.declared.schema.Field.{Field, fold-roll-Field}
use Rattle.ipc_model.specs.declared.schema.Schema.{Schema}
use Rattle.ipc_column.specs.Contents.{Contents, layouts}
use Rattle.ipc_column.specs.DictionaryBatches.{IsDictionary, dictionaries_in, dictionary_values}
use Rattle.ipc_column.specs.Dictionaries.{has_no_children}
use Rattle.ipc_column.specs.Shapes.{field_layout}
use Rattle.ipc_model.specs.declared.value.Value.{Value}
use Rattle.ipc_dict_read.specs.InForce.{in_force, put, total}
use Rattle.ipc_dict_read.specs.ValuesColumns.{dictionary_columns, columns_for, values_column, IsOneColumn}
use Rattle.ipc_dict_read.proofs.Leaves.{columns_alone}
use Rattle.ipc_dict_read.proofs.Named.{NamesOther, names_other, none_named, some_entry}
use Rattle.ipc_dict_read.proofs.ValuesColumns as law
use Rattle.ipc_stream_read.specs.Alone.{are_alone, is_alone}
use Rattle.ipc_stream_read.specs.Reasons.{IsUnknownDictionary}
use Rattle.ipc_stream_read.specs.Scopes.{dictionaries_of, set_by}
use Rattle.ipc_stream_read.specs.Stream.{DictionaryInForce}

-- ---- which dictionaries the fields name

all_among : (id : ℤ) (es : List Entry) → AllByRecursion (NamesOther id) es → (e : Entry) → IsAmong e es → NamesOther id e
all_among id [] h e among = absurd among
all_among id (x ∷ xs) h e (inl here) = subst (NamesOther id) here h.0
all_among id (x ∷ xs) h e (inr later) = all_among id xs h.1 e later

each_among : (id : ℤ) (es : List Entry) → ((e : Entry) → IsAmong e es → NamesOther id e) → AllByRecursion (NamesOther id) es
each_among id [] h = tt
each_among id (x ∷ xs) h = (h x (inl refl), each_among id xs (λ e among. h e (inr among)))

-- a dictionary without a column is named by no field
pub no_column : (s : Schema) (id : ℤ) → columns_for (dictionary_columns s.fields) id ≡ None → IsUnknownDictionary id s
no_column s id none = record { none = λ e among. all_among id (entries s.fields) (names_other s.fields id none) e among }

-- one that no field names has no column
pub names_none : (s : Schema) (id : ℤ) (columns : List Field) → IsUnknownDictionary id s → columns_for (dictionary_columns s.fields) id
    ≡ Some columns
    → ⊥
names_none s id columns h found =
    let bad : Some columns ≡ None = sym found ∙ none_named s.fields id (each_among id (entries s.fields) (λ e among. h.none e among)) in
    cc

one_entry : (name : List ℕ) (kind : DataType) → length (entries (values_column name kind ∷ [])) ≡ 1
one_entry name kind =
    ap (λ (l : Listing). length (l 1 ++ [])) (fold-roll-Field Listing preorder_step
    (record { name = name; nullable = true; kind = kind; dictionary = None; children = []; metadata = [] }))

-- the column may be read where the fields may
pub few_columns : (limits : Limits) (fields : List Field) (id : ℤ) (columns : List Field) → length (entries fields) ≤ limits.fields
    → columns_for (dictionary_columns fields) id ≡ Some columns → length (entries columns) ≤ limits.fields
few_columns limits fields id columns few found =
    let one = (subst (λ o. IfSome o IsOneColumn) found (law.one_column fields id)) in
    let long : length (entries columns) ≡ 1 = ap (λ c. length (entries c)) one.2 ∙ one_entry one.0 one.1 in
    omega (arith, long, some_entry fields id columns found, few)

-- ---- columns that stand alone

one_alone : (cs : List Field) → IsOneColumn cs → AllByRecursion (λ f. has_no_children (field_layout f) ≡ true) cs → is_alone cs ≡ true
one_alone cs one h =
    subst (λ c. AllByRecursion (λ f. has_no_children (field_layout f) ≡ true) c → is_alone c ≡ true) (sym one.2) (λ k. k.0) h

each_alone : (cs : List (ℤ × List Field)) → AllByRecursion (λ c. is_alone c.1 ≡ true) cs → are_alone cs ≡ true
each_alone [] h = refl
each_alone (c ∷ cs) h = ap (λ b. b && are_alone cs) h.0 ∙ each_alone cs h.1

found_alone : (cs : List (ℤ × List Field)) (id : ℤ) (columns : List Field) → are_alone cs ≡ true → columns_for cs id ≡ Some columns
    → is_alone columns ≡ true
found_alone [] id columns h found = absurd (cc)
found_alone (c ∷ cs) id columns h found =
    let parts = and_parts (is_alone c.1) (are_alone cs) h in
    (elim (int_eq c.0 id) as (λ b. cond b (Some c.1) (columns_for cs id) ≡ Some columns → is_alone columns ≡ true) [
      | true ↦ λ here. let same : c.1 ≡ columns = cc in subst (λ x. is_alone x ≡ true) same parts.0
      | false ↦ λ later. found_alone cs id columns parts.1 later
    ]) found

alone_dictionary : (columns : List Field) (values : Contents) → is_alone columns ≡ true → layouts values ≡ map field_layout columns
    → IsDictionary values
alone_dictionary [] values h lie = absurd (cc)
alone_dictionary (f ∷ []) values h lie = record { layout = field_layout f; one = lie; alone = h }
alone_dictionary (f ∷ g ∷ fs) values h lie = absurd (cc)

-- a batch of such a column is a dictionary's values
pub gives_dictionary : (cs : List (ℤ × List Field)) (id : ℤ) (columns : List Field) (values : Contents) → are_alone cs ≡ true
    → columns_for cs id ≡ Some columns → layouts values ≡ map field_layout columns → IsDictionary values
gives_dictionary cs id columns values alone found lie = alone_dictionary columns values (found_alone cs id columns alone found) lie

-- so is what is answered for it
pub answers_dictionary : (r : Result Contents Fault) (cs : List (ℤ × List Field)) (id : ℤ) (columns fields : List Field) → fields ≡ columns
    → are_alone cs ≡ true → columns_for cs id ≡ Some columns → IfOk r (λ values. layouts values ≡ map field_layout fields)
    → IfOk r (λ values. IsDictionary values)
answers_dictionary (Ok values) cs id columns fields same alone found lie =
    gives_dictionary cs id columns values alone found (lie ∙ ap (map field_layout) same)
answers_dictionary (Err e) cs id columns fields same alone found lie = tt

-- in a schema that keeps the rules each dictionary has one
pub schema_alone : (limits : Limits) (s : Schema) → WellFormed limits s → are_alone (dictionary_columns s.fields) ≡ true
schema_alone limits s fine = each_alone (dictionary_columns s.fields)
    (all_alone (dictionary_columns s.fields) (law.all_one s.fields) (columns_alone limits s.fields fine.each))
  where
    all_alone : (cs : List (ℤ × List Field)) → AllByRecursion (λ c. IsOneColumn c.1) cs
        → AllByRecursion (λ c. AllByRecursion (λ f. has_no_children (field_layout f) ≡ true) c.1) cs
        → AllByRecursion (λ c. is_alone c.1 ≡ true) cs
    all_alone [] one h = tt
    all_alone (c ∷ cs) one h = (one_alone c.1 one.0 h.0, all_alone cs one.1 h.1)

-- ---- the dictionaries that are kept

-- a dictionary's values beside its id, by the batch that is kept
abbrev values_of_kept : {Z : Type 0} → ℤ × Arc Contents Z → ℤ × List Value
values_of_kept e = (e.0, dictionary_values e.1.value)

-- the values of the dictionaries are those of the batches that are kept
pub kept_values : {Z : Type 0} (es : List (ℤ × Arc Contents Z))
    → map (λ (e : ℤ × DictionaryInForce). (e.0, e.1.values)) (dictionaries_of (map (λ (e : ℤ × Arc Contents Z). (e.0, e.1.value)) es))
    ≡ map values_of_kept es
kept_values [] = refl
kept_values (e ∷ es) = ap (λ t. (e.0, dictionary_values e.1.value) ∷ t) (kept_values es)

-- so the dictionaries that a batch is read under are those in force
pub shown_values : {Z : Type 0} (m : BTreeMap ℤ (Arc Contents Z)) (current : List (ℤ × Contents)) → in_force m ≡ current
    → dictionaries_in m ≡ map (λ (e : ℤ × DictionaryInForce). (e.0, e.1.values)) (dictionaries_of current)
shown_values m current is =
    sym (kept_values m.entries)
    ∙ ap (λ k. map (λ (e : ℤ × DictionaryInForce). (e.0, e.1.values)) (dictionaries_of k)) is

-- one more batch that is kept is one more dictionary
pub kept_put : (m : List (ℤ × Contents)) (id : ℤ) (v : Contents) → dictionaries_of (put m id v) ≡ put (dictionaries_of m) id (set_by v)
kept_put [] id v = refl
kept_put (e ∷ es) id v =
    let f : ℤ × Contents → ℤ × DictionaryInForce = λ x. (x.0, set_by x.1) in
    elim (int_cmp id e.0) as (λ o. map f (match_ordering o ((id, v) ∷ e ∷ es) ((e.0, v) ∷ es) (e ∷ insert_entry int_cmp es id v))
    ≡ match_ordering o ((id, set_by v) ∷ f e ∷ map f es) ((e.0, set_by v) ∷ map f es) (f e ∷ insert_entry int_cmp (map f es) id (set_by v)))
    [ Less ↦ refl | Equal ↦ refl | Greater ↦ ap (λ t. f e ∷ t) (kept_put es id v) ]

-- the bytes of the bodies that are kept are those of the dictionaries
pub kept_bytes : (m : List (ℤ × Contents)) → total m ≡ sum_by (λ d. d.bytes) (values_of (dictionaries_of m))
kept_bytes [] = refl
kept_bytes (e ∷ es) =
    let f : Contents → ℕ = λ v. v.body_len in
    let g : DictionaryInForce → ℕ = λ d. d.bytes in
    sum_by-cons f e.1 (values_of es) ∙ ap (λ n. e.1.body_len + n) (kept_bytes es)
    ∙ sym (sum_by-cons g (set_by e.1) (values_of (dictionaries_of es)))
