-- Dictionaries are read by one column each.
use Rattle.std.proofs.Common.{sym, subst, refl, ℤ, true, false, cond, List, [], ◌∷◌, ◌++◌, map, int_eq, Option, Some, None}
use Rattle.std.specs.List.{AllByRecursion}
use Rattle.std.specs.Option.{IfSome}
use Rattle.ipc_model.specs.declared.schema.Dictionary.{Dictionary}
use Rattle.ipc_model.specs.declared.schema.Field.{Field, roll-Field, ind-Field, fold-roll-Field, map-Field}
use Rattle.ipc_model.specs.declared.schema.Field.TheOpen.{Field-F}
use Rattle.std.specs.List.{flat_map}
use Rattle.ipc_dict_read.specs.ValuesColumns.{Listed, own_columns, columns_step, field_dictionary_columns, dictionary_columns, columns_for}
use Rattle.ipc_dict_read.specs.ValuesColumns.{IsOneColumn}
use Rattle.ipc_dict_read.specs.ValuesColumns.{AreOneColumn}

-- each of them is one column
abbrev pub AllOne : Listed → Type 0
AllOne cs = AllByRecursion (λ e. IsOneColumn e.1) cs

both : (xs ys : Listed) → AllOne xs → AllOne ys → AllOne (xs ++ ys)
both [] ys h k = k
both (x ∷ xs) ys h k = (h.0, both xs ys h.1 k)

own : {X : Type 0} (f : Field-F X) (d : Option Dictionary) → AllOne (own_columns f d)
own f None = tt
own f (Some d) = ((f.name, f.kind, refl), tt)

abbrev Shown : Type 0
Shown = (f : Field) × AllOne (field_dictionary_columns f)

below : (cs : List Shown) → AllOne (flat_map (λ c. c) (map field_dictionary_columns (map (λ c. c.0) cs)))
below [] = tt
below (c ∷ cs) = both (field_dictionary_columns c.0) (flat_map (λ c. c) (map field_dictionary_columns (map (λ c. c.0) cs))) c.1 (below cs)

layer : (y : Field-F Shown) → AllOne (field_dictionary_columns (roll-Field (map-Field Shown Field (λ c. c.0) y)))
layer y =
    let z : Field-F Field = map-Field Shown Field (λ c. c.0) y in
    let w : Field-F Listed = map-Field Field Listed field_dictionary_columns z in
    subst AllOne (sym (fold-roll-Field Listed columns_step z))
    (both (own_columns w w.dictionary) (flat_map (λ c. c) w.children) (own w w.dictionary) (below y.children))

of_field : (f : Field) → AllOne (field_dictionary_columns f)
of_field = ind-Field (λ f. AllOne (field_dictionary_columns f)) (λ x y is. subst (λ z. AllOne (field_dictionary_columns (roll-Field z))) is
    (layer y))

-- each is
pub all_one : (fields : List Field) → AllOne (dictionary_columns fields)
all_one [] = tt
all_one (f ∷ fs) = both (field_dictionary_columns f) (dictionary_columns fs) (of_field f) (all_one fs)

found : (cs : Listed) (id : ℤ) → AllOne cs → IfSome (columns_for cs id) IsOneColumn
found [] id h = tt
found (c ∷ cs) id h =
    elim (int_eq c.0 id) as (λ b. IfSome (cond b (Some c.1) (columns_for cs id)) IsOneColumn) [ true ↦ h.0 | false ↦ found cs id h.1 ]

pub one_column : AreOneColumn
one_column fields id = found (dictionary_columns fields) id (all_one fields)
