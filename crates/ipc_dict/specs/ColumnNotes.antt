-- The dictionary values of columns, each noted once (Arrow Columnar Format, "Dictionary-encoded
-- Layout").
use Rattle.std.specs.Prelude.{◌≡◌, ℕ, ◌+◌, ℤ, Bool, true, false, List, [], ◌∷◌, drop, map, Some}
use Rattle.std.specs.Prelude.{slice_get, if◌then◌else◌}
use Rattle.std.specs.List.{AllByRecursion}
use Rattle.std.specs.Ordering.{int_eq}
use Rattle.ipc_model.specs.declared.schema.Field.{Field}
use Rattle.ipc_model.specs.declared.value.Value.{Value}
use Rattle.ipc_dict.specs.declared.entry.TallyEntry.{TallyEntry}
use Rattle.ipc_dict.specs.Distinct.{is_among}
use Rattle.ipc_dict.specs.Pairs.{Pairs, pairs, each_pairs}

-- the value is among those of the dictionary with the id, if the tally has that dictionary
abbrev pub is_known : List TallyEntry → ℤ → Value → Bool
is_known [] id v = true
is_known (e ∷ es) id v = if int_eq e.id id then is_among e.values v else is_known es id v

-- each pair's value is among those of its dictionary
abbrev pub AllKnown : List TallyEntry → Pairs → Type 0
AllKnown t ps = AllByRecursion (λ p. is_known t p.0 p.1 ≡ true) ps

-- for each marked value of the dictionary, all pairs that the field has for it are known
abbrev pub AreNoted : List TallyEntry → Field → List Value → List Bool → Type 0
AreNoted t field dictionary noted = (i : ℕ) (value : Value) → slice_get noted i ≡ Some true
    → slice_get dictionary i ≡ Some value → AllKnown t (pairs field value)

-- no pair of the first list has the same id as a pair of the second
abbrev pub AreOthers : Pairs → Pairs → Type 0
AreOthers ps qs = AllByRecursion (λ p. AllByRecursion (λ q. int_eq p.0 q.0 ≡ false) qs) ps

-- the field and the other fields name no dictionary in common
abbrev pub HasOtherDictionaries : Field → List Field → Type 0
HasOtherDictionaries field others = (value : Value) (row : List Value)
    → AreOthers (pairs field value) (each_pairs (map pairs others) row)

-- no two of the fields name the same dictionary
abbrev pub HaveDistinctDictionaries : List Field → Type 0
HaveDistinctDictionaries fields = (i : ℕ) (field : Field) → slice_get fields i ≡ Some field
    → HasOtherDictionaries field (drop (i + 1) fields)
