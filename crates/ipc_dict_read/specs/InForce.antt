-- The finite map from ids to the values in force, with the length of the body that set them; its
-- entries are in the order of the ids (Arrow Columnar Format, "Dictionary Messages").
use Rattle.std.specs.Prelude.{◌≡◌, ℕ, ℤ, List, map, Option}
use Rattle.std.specs.List.{sum_by}
use Rattle.std.specs.Ordering.{int_cmp}
use Rattle.std.specs.Map.{lookup, values_of}
use Rattle.std.specs.Option.{option_map, unwrap_or}
use Rattle.std.specs.BTreeMap.{BTreeMap, insert_entry, is_at}
use Rattle.std.specs.declared.sync.Arc.{Arc}
use Rattle.ipc_column.specs.Contents.{Contents}
use Rattle.ipc_column.specs.DictionaryBatches.{AreDictionaries}

module _ {X : Type 0} where
  -- the map after v is set for the id
  abbrev pub put : List (ℤ × X) → ℤ → X → List (ℤ × X)
  put m id v = insert_entry int_cmp m id v

  -- the entry in force for the id, if there is one
  abbrev pub at : List (ℤ × X) → ℤ → Option X
  at m id = lookup (is_at (int_cmp id)) m

  -- the map of the values themselves, from a map of shared values
  abbrev pub in_force : {Z : Type 0} → BTreeMap ℤ (Arc X Z) → List (ℤ × X)
  in_force m = map (λ e. (e.0, e.1.value)) m.entries

-- how many bytes all bodies have together
abbrev pub total : List (ℤ × Contents) → ℕ
total m = sum_by (λ v. v.body_len) (values_of m)

-- how many bytes the body in force for the id has; 0 if there is none
abbrev pub body_len_of : List (ℤ × Contents) → ℤ → ℕ
body_len_of m id = unwrap_or (option_map (λ v. v.body_len) (at m id)) 0

-- what is stored about a map: `held` is how many bytes its bodies have, and each entry is a
-- dictionary's values
pub record IsKept {Z : Type 0} (m : BTreeMap ℤ (Arc Contents Z)) (held : ℕ) : Type 0 where
  pub bytes : held ≡ total (in_force m)
  pub values : AreDictionaries m
