-- The batches whose values are dictionaries (Arrow Columnar Format, "Dictionary Messages").
use Rattle.std.specs.Prelude.{◌≡◌, ℤ, true, List, [], ◌∷◌, map}
use Rattle.std.specs.List.{AllByRecursion}
use Rattle.std.specs.BTreeMap.{BTreeMap}
use Rattle.std.specs.declared.sync.Arc.{Arc}
use Rattle.ipc_model.specs.declared.layout.Layout.{Layout}
use Rattle.ipc_model.specs.declared.value.Value.{Value}
use Rattle.ipc_column.specs.Contents.{Contents, layouts}
use Rattle.ipc_column.specs.Dictionaries.{Dictionaries, has_no_children}
use Rattle.ipc_column.specs.Values.{first_of}

-- the values of a dictionary batch, which has one column
abbrev pub dictionary_values : Contents → List Value
dictionary_values batch = map first_of batch.rows

-- the values of each dictionary batch of a map, by the id
abbrev pub dictionaries_in : {Z : Type 0} → BTreeMap ℤ (Arc Contents Z) → Dictionaries
dictionaries_in m = map (λ e. (e.0, dictionary_values e.1.value)) m.entries

-- a batch of one column that stores its values itself (Arrow Columnar Format, "Dictionary
-- Messages")
pub record IsDictionary (batch : Contents) : Type 0 where
  pub layout : Layout
  pub one : layouts batch ≡ layout ∷ []
  pub alone : has_no_children layout ≡ true

-- each batch of a map is a dictionary (`IsDictionary`)
abbrev pub AreDictionaries : {Z : Type 0} → BTreeMap ℤ (Arc Contents Z) → Type 0
AreDictionaries m = AllByRecursion (λ e. IsDictionary e.1.value) m.entries
