-- The tally entries of the fields of a schema (Schema.fbs, table DictionaryEncoding: fields with
-- one id have one dictionary).
use Rattle.std.specs.Prelude.{◌≡◌, ℕ, ◌≤◌, ◌^◌, ◌-◌, ◌+◌, min, ℤ, List, [], ◌∷◌, Option, Some}
use Rattle.std.specs.Prelude.{IsSome, if◌then◌else◌, position}
use Rattle.std.specs.List.{AllByRecursion}
use Rattle.std.specs.Ordering.{int_eq}
use Rattle.ipc_model.specs.declared.schema.Dictionary.{Dictionary}
use Rattle.ipc_model.specs.declared.schema.Field.{Field}
use Rattle.ipc_dict.specs.declared.entry.TallyEntry.{TallyEntry}
use Rattle.ipc_dict.specs.Noting.{values_noted_for}
use Rattle.ipc_dict.specs.SchemaIds.{index_capacity, of_fields, empty_entries}

-- the index of the first of these dictionaries that has the id
abbrev pub first_place : List Dictionary → ℤ → Option ℕ
first_place ds id = position (λ d. int_eq d.id id) ds

-- how many values each index type with this id can address
abbrev pub counts_for : List Dictionary → ℤ → List ℕ
counts_for [] id = []
counts_for (d ∷ ds) id = if int_eq d.id id then index_capacity d
    ∷ counts_for ds id else counts_for ds id

-- the least of these numbers and 2^64 - 1, the most values that a list can have
abbrev pub least : List ℕ → ℕ
least [] = 2 ^ 64 - 1
least (n ∷ ns) = min n (least ns)

-- the entries are in the order in which their ids first occur, from an index on. Each has the least
-- count of its id's index types, and no value
abbrev pub AreInOrder : List Dictionary → ℕ → List TallyEntry → Type 0
AreInOrder ds from [] = Unit {0}
AreInOrder ds from (e ∷ es) = (k : ℕ) × ((from ≤ k) × ((first_place ds e.id ≡ Some k)
    × ((e.limit ≡ least (counts_for ds e.id)) × ((e.values ≡ []) × AreInOrder ds (k + 1) es))))

-- each id has one entry, in the order in which the ids first occur
pub record AreEntries (ds : List Dictionary) (es : List TallyEntry) : Type 0 where
  pub ordered : AreInOrder ds 0 es
  pub all : AllByRecursion (λ d. IsSome (values_noted_for es d.id)) ds

-- the entries of a schema are those of its dictionaries, in the order of the fields in pre-order
abbrev pub AreOfSchema : Type 0
AreOfSchema = (fields : List Field) → AreEntries (of_fields fields) (empty_entries fields)
