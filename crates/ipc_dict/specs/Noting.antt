-- The tally after values were noted (Arrow Columnar Format, "Dictionary-encoded Layout").
use Rattle.std.specs.Prelude.{◌≡◌, ℕ, ◌<◌, ◌≤◌, ℤ, List, [], ◌∷◌, length, take, map, Option, Some}
use Rattle.std.specs.Prelude.{None, ◌⊎◌, if◌then◌else◌, Contains, IsSome}
use Rattle.std.specs.Ordering.{int_eq}
use Rattle.ipc_model.specs.declared.value.Value.{Value}
use Rattle.ipc_dict.specs.declared.entry.TallyEntry.{TallyEntry}
use Rattle.ipc_dict.specs.Distinct.{with_distinct, with_all_distinct, first_index}
use Rattle.std.specs.Option.{option_map}

-- the entry of a dictionary after this value was noted
abbrev pub note_entry : Value → TallyEntry → TallyEntry
note_entry v e = record e { values = with_distinct e.values v }

-- the tally after this value of the dictionary with the id was noted
abbrev pub note_one : List TallyEntry → ℤ → Value → List TallyEntry
note_one [] id v = []
note_one (e ∷ es) id v = if int_eq e.id id then note_entry v e ∷ es else e ∷ note_one es id v

-- the tally after each value was noted in turn, for the dictionary with its id
abbrev pub note_all : List TallyEntry → List (ℤ × Value) → List TallyEntry
note_all t [] = t
note_all t (p ∷ ps) = note_all (note_one t p.0 p.1) ps

-- each dictionary has at most as many values as its index types can address
abbrev pub AllFit : List TallyEntry → Type 0
AllFit [] = Unit {0}
AllFit (e ∷ es) = (length e.values ≤ e.limit) × AllFit es

-- some dictionary has more values than its index types can address
abbrev pub IsIndexOverflow : List TallyEntry → Type 0
IsIndexOverflow [] = ⊥
IsIndexOverflow (e ∷ es) = (e.limit < length e.values) ⊎ IsIndexOverflow es

-- the new entry has the old one's id, limit and values, and further values after these
pub record GrowsEntry (old new : TallyEntry) : Type 0 where
  pub id : new.id ≡ old.id
  pub limit : new.limit ≡ old.limit
  pub front : take (length old.values) new.values ≡ old.values

-- each dictionary's entry grows (`GrowsEntry`), index by index
abbrev pub AllGrow : List TallyEntry → List TallyEntry → Type 0
AllGrow [] [] = Unit {0}
AllGrow (e ∷ es) (f ∷ fs) = GrowsEntry e f × AllGrow es fs
AllGrow _ _ = ⊥

-- how many values each dictionary has
abbrev pub tally_lengths : List TallyEntry → List ℕ
tally_lengths t = map (λ e. length e.values) t

-- the tally with only the first n values of each dictionary, where n is the number at its index
abbrev pub truncated_tally : List ℕ → List TallyEntry → List TallyEntry
truncated_tally [] t = t
truncated_tally (n ∷ ns) [] = []
truncated_tally (n ∷ ns) (e ∷ es) = record e { values = take n e.values } ∷ truncated_tally ns es

-- ---- one dictionary

-- the values of one dictionary among pairs of id and value
abbrev pub of_id : ℤ → List (ℤ × Value) → List Value
of_id id [] = []
of_id id (p ∷ ps) = if int_eq p.0 id then p.1 ∷ of_id id ps else of_id id ps

-- the values of one dictionary in a tally, if the tally has it
abbrev pub values_noted_for : List TallyEntry → ℤ → Option (List Value)
values_noted_for [] id = None
values_noted_for (e ∷ es) id = if int_eq e.id id then Some e.values else values_noted_for es id

-- the index of a value among those of the dictionary with the id
abbrev pub place_of_value : List TallyEntry → ℤ → Value → Option ℕ
place_of_value [] id v = None
place_of_value (e ∷ es) id v = if int_eq e.id id then first_index v e.values else place_of_value es
    id v

-- a value keeps its index, whatever is noted after it
abbrev pub KeepsPlaces : Type 0
KeepsPlaces = (t : List TallyEntry) (ps : List (ℤ × Value)) (id : ℤ) (v : Value) (i : ℕ)
    → place_of_value t id v ≡ Some i → place_of_value (note_all t ps) id v ≡ Some i

-- each value that is noted has an index, if the tally has its dictionary
abbrev pub PlacesAll : Type 0
PlacesAll = (t : List TallyEntry) (ps : List (ℤ × Value)) (id : ℤ) (v : Value)
    → Contains ps (id, v) → IsSome (values_noted_for t id)
    → IsSome (place_of_value (note_all t ps) id v)

-- after noting, each dictionary of a tally has the values it had, then the distinct new ones of the
-- pairs, in order of first appearance
abbrev pub HoldsDistinct : Type 0
HoldsDistinct = (t : List TallyEntry) (ps : List (ℤ × Value)) (id : ℤ)
    → values_noted_for (note_all t ps) id ≡ option_map (λ xs. with_all_distinct xs (of_id id ps))
    (values_noted_for t id)
