-- Each dictionary that the fields of a schema name has its one column.
use Rattle.std.proofs.Common.{◌≡◌, ◌∙◌, refl, sym, ap, subst, ℕ, zero, suc, ◌<◌, ◌+◌, ℤ, true, false, cond, arith, int_eq}
use Rattle.std.proofs.Common.{List, [], ◌∷◌, ◌++◌, length, get_or, map, Option, Some, None}
use Rattle.std.specs.Option.{IfSome}
use Rattle.std.proofs.lemmas.List.Quantifiers.{position-Some}
use Rattle.ipc_model.specs.declared.schema.Dictionary.{Dictionary}
use Rattle.ipc_model.specs.declared.schema.Field.{Field, roll-Field, ind-Field, fold-roll-Field, map-Field}
use Rattle.ipc_model.specs.declared.schema.Field.TheOpen.{Field-F}
use Rattle.std.specs.List.{flat_map}
use Rattle.ipc_dict_read.specs.ValuesColumns.{Listed, own_columns, columns_step, field_dictionary_columns, dictionary_columns, columns_for}
use Rattle.ipc_dict_read.specs.ValuesColumns.{IsOneColumn}
use Rattle.ipc_dict_read.proofs.ValuesColumns as law
use Rattle.ipc_dict.specs.declared.entry.TallyEntry.{TallyEntry}
use Rattle.ipc_dict.specs.SchemaEntries.{AreInOrder, first_place}
use Rattle.ipc_dict.specs.SchemaIds.{own, field_step, of_field, of_fields, empty_entries}
use Rattle.ipc_dict.proofs.ids.SchemaEntries.{are_of_schema}

-- ---- columns beside the dictionaries that they are of

abbrev Beside : Listed → List Dictionary → Type 0
Beside [] [] = Unit {0}
Beside (c ∷ cs) (d ∷ ds) = (c.0 ≡ d.id) × Beside cs ds
Beside _ _ = ⊥

both : (cs bs : Listed) (ds es : List Dictionary) → Beside cs ds → Beside bs es → Beside (cs ++ bs) (ds ++ es)
both [] bs [] es h k = k
both [] bs (d ∷ ds) es h k = absurd h
both (c ∷ cs) bs [] es h k = absurd h
both (c ∷ cs) bs (d ∷ ds) es h k = (h.0, both cs bs ds es h.1 k)

alone : {X : Type 0} (f : Field-F X) (o : Option Dictionary) → Beside (own_columns f o) (own o)
alone f None = tt
alone f (Some d) = (refl, tt)

abbrev Shown : Type 0
Shown = (f : Field) × Beside (field_dictionary_columns f) (of_field f)

below : (cs : List Shown) → Beside (flat_map (λ c. c) (map field_dictionary_columns (map (λ c. c.0) cs)))
    (flat_map (λ c. c) (map of_field (map (λ c. c.0) cs)))
below [] = tt
below (c ∷ cs) = both (field_dictionary_columns c.0) (flat_map (λ c. c) (map field_dictionary_columns (map (λ x. x.0) cs))) (of_field c.0)
    (flat_map (λ c. c) (map of_field (map (λ x. x.0) cs))) c.1 (below cs)

layer : (y : Field-F Shown) → Beside (field_dictionary_columns (roll-Field (map-Field Shown Field (λ c. c.0) y)))
    (of_field (roll-Field (map-Field Shown Field (λ c. c.0) y)))
layer y =
    let z : Field-F Field = map-Field Shown Field (λ c. c.0) y in
    let w : Field-F Listed = map-Field Field Listed field_dictionary_columns z in
    let v : Field-F (List Dictionary) = map-Field Field (List Dictionary) of_field z in
    let mine = alone w w.dictionary in
    subst (λ (l : Listed). Beside l (of_field (roll-Field z))) (sym (fold-roll-Field Listed columns_step z))
    (subst (λ (l : List Dictionary). Beside (columns_step w) l) (sym (fold-roll-Field (List Dictionary) field_step z))
    (both (own_columns w w.dictionary) (flat_map (λ c. c) w.children) (own v.dictionary) (flat_map (λ c. c) v.children) mine
    (below y.children)))

of_one : (f : Field) → Beside (field_dictionary_columns f) (of_field f)
of_one = ind-Field (λ f. Beside (field_dictionary_columns f) (of_field f))
    (λ x y is. subst (λ z. Beside (field_dictionary_columns (roll-Field z)) (of_field (roll-Field z))) is (layer y))

all_beside : (fields : List Field) → Beside (dictionary_columns fields) (of_fields fields)
all_beside [] = tt
all_beside (f ∷ fs) = both (field_dictionary_columns f) (dictionary_columns fs) (of_field f) (of_fields fs) (of_one f) (all_beside fs)

-- ---- the column of an id

abbrev Found : Listed → ℤ → Type 0
Found cs id = (columns : List Field) × (columns_for cs id ≡ Some columns)

found : (cs : Listed) (ds : List Dictionary) (id : ℤ) (i : ℕ) (d : Dictionary) → Beside cs ds → i < length ds
    → int_eq (get_or ds i d).id id ≡ true → Found cs id
found [] [] id i d h l at = absurd (omega arith)
found [] (x ∷ ds) id i d h l at = absurd h
found (c ∷ cs) [] id i d h l at = absurd h
found (c ∷ cs) (x ∷ ds) id zero d h l at = (
  c.1,
  ap (λ b. cond b (Some c.1) (columns_for cs id)) (ap (λ (k : ℤ). int_eq k id) h.0 ∙ at),
)
found (c ∷ cs) (x ∷ ds) id (suc i) d h l at =
    elim (int_eq c.0 id) as (λ b. (columns : List Field) × (cond b (Some c.1) (columns_for cs id) ≡ Some columns))
    [ true ↦ (c.1, refl) | false ↦ found cs ds id i d h.1 (omega arith) at ]

placed : (cs : Listed) (ds : List Dictionary) (id : ℤ) (k : ℕ) → Beside cs ds → first_place ds id ≡ Some k → Found cs id
placed cs [] id k h at = absurd cc
placed cs (d ∷ ds) id k h at =
    let p = position-Some (λ x. int_eq x.id id) (d ∷ ds) k d at in
    found cs (d ∷ ds) id k d h p.0 p.1

-- the column of an id that a field names is one
one : (fields : List Field) (id : ℤ) → Found (dictionary_columns fields) id
    → (columns : List Field) × ((columns_for (dictionary_columns fields) id ≡ Some columns) × IsOneColumn columns)
one fields id h = (h.0, (h.1, subst (λ o. IfSome o IsOneColumn) h.1 (law.one_column fields id)))

-- an entry without values, whose dictionary has its column
abbrev pub IsFresh : List Field → TallyEntry → Type 0
IsFresh fields e = ((columns : List Field) × ((columns_for (dictionary_columns fields) e.id ≡ Some columns) × IsOneColumn columns))
    × (e.values ≡ [])

each : (fields : List Field) (from : ℕ) (es : List TallyEntry) (i : ℕ) (e : TallyEntry) → AreInOrder (of_fields fields) from es
    → i < length es → e ≡ get_or es i e → IsFresh fields e
each fields from [] i e h l at = absurd (omega arith)
each fields from (x ∷ es) zero e (k, (low, (place, (limit, (none, rest))))) l at =
    subst (λ (y : TallyEntry). IsFresh fields y) (sym at)
    (one fields x.id (placed (dictionary_columns fields) (of_fields fields) x.id k (all_beside fields) place), none)
each fields from (x ∷ es) (suc i) e (k, (low, (place, (limit, (none, rest))))) l at =
    each fields (k + 1) es i e rest (omega arith) at

-- each entry of a schema is
pub fresh_at : (fields : List Field) (es : List TallyEntry) (i : ℕ) (e : TallyEntry) → es ≡ empty_entries fields → i < length es
    → e ≡ get_or es i e → IsFresh fields e
fresh_at fields es i e same l at =
    let ordered = subst (λ (us : List TallyEntry). AreInOrder (of_fields fields) 0 us) (sym same) (are_of_schema fields).ordered in
    each fields 0 es i e ordered l at
