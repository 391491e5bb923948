-- Each id of a schema has one entry.
use Rattle.std.proofs.Common.{◌≡◌, ◌∙◌, refl, sym, Bool, true, false, cond, ℤ, List, [], ◌∷◌}
use Rattle.std.proofs.Common.{int_eq, true≢false}
use Rattle.std.proofs.lemmas.Bool.Decides.{Decides-int_eq}
use Rattle.ipc_model.specs.declared.schema.Dictionary.{Dictionary}
use Rattle.ipc_model.specs.declared.schema.Field.{Field}
use Rattle.ipc_dict.specs.declared.entry.TallyEntry.{TallyEntry}
use Rattle.ipc_dict.specs.SchemaIds.{with_field, with_fields, empty_entries, of_fields, tally_ids}
use Rattle.ipc_dict.proofs.ids.SchemaIds.{lowered}

-- none of the ids is this one
abbrev pub IsOther : ℤ → List ℤ → Type 0
IsOther id [] = Unit {0}
IsOther id (i ∷ is) = (int_eq i id ≡ false) × IsOther id is

-- no id stands twice
abbrev pub AreUnique : List ℤ → Type 0
AreUnique [] = Unit {0}
AreUnique (i ∷ is) = IsOther i is × AreUnique is

pub flipped : (x y : ℤ) → int_eq x y ≡ false → int_eq y x ≡ false
flipped x y h = by (int_eq y x) refl
  where
    by : (b : Bool) → int_eq y x ≡ b → b ≡ false
    by false e = refl
    by true e = absurd (true≢false (sym ((Decides-int_eq x y).1 (sym ((Decides-int_eq y x).0 e))) ∙ h))

-- one more field's dictionary
other-with_field : (id : ℤ) (es : List TallyEntry) (d : Dictionary) → int_eq d.id id ≡ false → IsOther id (tally_ids es)
    → IsOther id (tally_ids (with_field es d))
other-with_field id [] d h o = (h, tt)
other-with_field id (e ∷ es) d h o = by (other-with_field id es d h o.1) (int_eq e.id d.id)
  where
    by : IsOther id (tally_ids (with_field es d)) → (b : Bool)
        → IsOther id (tally_ids (cond b (lowered d e ∷ es) (e ∷ with_field es d)))
    by rest true = o
    by rest false = (o.0, rest)

unique-with_field : (es : List TallyEntry) (d : Dictionary) → AreUnique (tally_ids es) → AreUnique (tally_ids (with_field es d))
unique-with_field [] d u = (tt, tt)
unique-with_field (e ∷ es) d u = by (unique-with_field es d u.1) (int_eq e.id d.id) refl
  where
    by : AreUnique (tally_ids (with_field es d)) → (b : Bool) → int_eq e.id d.id ≡ b
        → AreUnique (tally_ids (cond b (lowered d e ∷ es) (e ∷ with_field es d)))
    by rest true q = u
    by rest false q = (other-with_field e.id es d (flipped e.id d.id q) u.0, rest)

unique-with_fields : (es : List TallyEntry) (ds : List Dictionary) → AreUnique (tally_ids es)
    → AreUnique (tally_ids (with_fields es ds))
unique-with_fields es [] u = u
unique-with_fields es (d ∷ ds) u = unique-with_fields (with_field es d) ds (unique-with_field es d u)

-- the ids of a schema are unique
pub unique_ids : (fields : List Field) → AreUnique (tally_ids (empty_entries fields))
unique_ids fields = unique-with_fields [] (of_fields fields) tt
