-- Entries for the ids of a schema.
use Rattle.std.proofs.Common.{◌≡◌, ℕ, zero, suc, ◌<◌, true, false, cond, ◌++◌, List, [], ◌∷◌, length, get_or, set, refl, sym, ap, ◌∙◌}
use Rattle.std.proofs.Common.{arith, int_eq, ℤ, Some}
use Rattle.std.specs.Prelude.{min}
use Rattle.std.specs.Option.{option_map}
use Rattle.ipc_model.specs.declared.value.Value.{Value}
use Rattle.ipc_model.specs.declared.schema.Dictionary.{Dictionary}
use Rattle.ipc_model.specs.declared.schema.Field.{Field}
use Rattle.ipc_dict.specs.declared.entry.TallyEntry.{TallyEntry}
use Rattle.ipc_dict.specs.Noting.{AllFit, values_noted_for}
use Rattle.ipc_dict.specs.SchemaIds.{index_capacity, fresh, with_field, with_fields, empty_entries, of_fields}

module _ (d : Dictionary) where
  abbrev pub lowered : TallyEntry → TallyEntry
  lowered e = record e { limit = min e.limit (index_capacity d) }

  -- where no entry has the id, a fresh one goes last
  pub absent-with_field : (t : List TallyEntry) → ((k : ℕ) (x : TallyEntry) → k < length t → int_eq (get_or t k x).id d.id ≡ false)
      → t ++ fresh d ∷ [] ≡ with_field t d
  absent-with_field [] none = refl
  absent-with_field (e ∷ es) none =
      ap (λ l. e ∷ l) (absent-with_field es (λ k x l. none (suc k) x (omega arith)))
      ∙ sym (ap (λ b. cond b (lowered e ∷ es) (e ∷ with_field es d)) (none zero e (omega arith)))

  -- where one has it, its limit alone changes
  pub set-with_field : (t : List TallyEntry) (i : ℕ) (x : TallyEntry) → i < length t → int_eq (get_or t i x).id d.id ≡ true
      → ((k : ℕ) → k < i → int_eq (get_or t k x).id d.id ≡ false) → x ≡ get_or t i x
      → set t i (record x { limit = min x.limit (index_capacity d) }) ≡ with_field t d
  set-with_field [] i x h at before same = absurd (omega arith)
  set-with_field (e ∷ es) zero x h at before same =
      ap (λ y. lowered y ∷ es) same ∙ sym (ap (λ b. cond b (lowered e ∷ es) (e ∷ with_field es d)) at)
  set-with_field (e ∷ es) (suc i) x h at before same =
      let rest = set-with_field es i x (omega arith) at (λ k l. before (suc k) (omega arith)) same in
      ap (λ l. e ∷ l) rest ∙ sym (ap (λ b. cond b (lowered e ∷ es) (e ∷ with_field es d)) (before zero (omega arith)))

-- ---- entries without values fit

abbrev AllEmpty : List TallyEntry → Type 0
AllEmpty [] = Unit {0}
AllEmpty (e ∷ es) = (length e.values ≡ 0) × AllEmpty es

empty-with_field : (t : List TallyEntry) (d : Dictionary) → AllEmpty t → AllEmpty (with_field t d)
empty-with_field [] d h = (refl, tt)
empty-with_field (e ∷ es) d h =
    elim (int_eq e.id d.id) as (λ b. AllEmpty (cond b (lowered d e ∷ es) (e ∷ with_field es d)))
    [ true ↦ h | false ↦ (h.0, empty-with_field es d h.1) ]

empty-with_fields : (t : List TallyEntry) (ds : List Dictionary) → AllEmpty t → AllEmpty (with_fields t ds)
empty-with_fields t [] h = h
empty-with_fields t (d ∷ ds) h = empty-with_fields (with_field t d) ds (empty-with_field t d h)

fit-empty : (t : List TallyEntry) → AllEmpty t → AllFit t
fit-empty [] h = tt
fit-empty (e ∷ es) h = (omega (arith, h.0), fit-empty es h.1)

pub fit-unused : (fields : List Field) → AllFit (empty_entries fields)
fit-unused fields = fit-empty (empty_entries fields) (empty-with_fields [] (of_fields fields) tt)

-- ---- what they hold of one id

empty-noted_for : (t : List TallyEntry) (id : ℤ) (f : List Value → List Value) → AllEmpty t
    → option_map f (values_noted_for t id) ≡ option_map (λ none. f []) (values_noted_for t id)
empty-noted_for [] id f h = refl
empty-noted_for (e ∷ es) id f h =
    elim (int_eq e.id id) as (λ b. option_map f (cond b (Some e.values) (values_noted_for es id))
    ≡ option_map (λ none. f []) (cond b (Some e.values) (values_noted_for es id))) [
      | true ↦ ap (λ xs. Some (f xs)) (no_items e.values h.0)
      | false ↦ empty-noted_for es id f h.1
    ]
  where
    no_items : (xs : List Value) → length xs ≡ 0 → xs ≡ []
    no_items [] z = refl
    no_items (x ∷ xs) z = absurd (omega (arith, z))

pub unused-noted_for : (fields : List Field) (id : ℤ) (f : List Value → List Value)
    → option_map f (values_noted_for (empty_entries fields) id) ≡ option_map (λ none. f []) (values_noted_for (empty_entries fields) id)
unused-noted_for fields id f = empty-noted_for (empty_entries fields) id f (empty-with_fields [] (of_fields fields) tt)
