-- The first fault of a schema: the first entry that breaks a rule (Schema.fbs, tables Schema and
-- Field).
use Rattle.std.specs.Prelude.{◌≡◌, ℕ, ◌+◌, ◌<◌, ◌≤◌, List, [], ◌∷◌, ◌++◌, length, take, sum_by}
use Rattle.std.specs.Prelude.{slice_get, Some, IsSome, ◌⊎◌}
use Rattle.ipc_model.specs.WellFormed.{HasGoodType, HasFittingChildren, IsLeaf, IsAmong}
use Rattle.ipc_model.specs.WellFormed.{HaveOneType}
use Rattle.ipc_model.specs.Entries.{Entry, entries, pair_text}
use Rattle.ipc_model.specs.declared.check.SchemaFault.{SchemaFault}
use Rattle.ipc_model.specs.declared.check.SchemaFault.TheVariants as f
use Rattle.ipc_model.specs.declared.schema.Schema.{Schema}
use Rattle.ipc_model.specs.declared.limits.Limits.{Limits}

-- the schema's own pairs and these entries have more text, or more pairs, than the limits allow
abbrev pub ExceedsTextLimits : Limits → Schema → List Entry → Type 0
ExceedsTextLimits limits s es = (limits.text < pair_text s.metadata + sum_by (λ e. e.text) es)
    ⊎ (limits.pairs < length s.metadata + sum_by (λ e. e.pairs) es)

-- an earlier entry has the dictionary of this entry, and another type
abbrev pub HasConflict : List Entry → Entry → Type 0
HasConflict earlier e = (a : Entry) × (IsAmong a earlier × ¬ HaveOneType a e)

-- an entry that follows these earlier ones breaks the rule that the fault names
abbrev pub BreaksRule : Limits → Schema → List Entry → Entry → SchemaFault → Type 0
BreaksRule limits s earlier e (f.BadType number) = ¬ HasGoodType e.kind
BreaksRule limits s earlier e (f.BadChildren number) = ¬ HasFittingChildren e.kind e.children
BreaksRule limits s earlier e (f.TooManyFields number) = limits.fields < length earlier + 1
BreaksRule limits s earlier e (f.TooDeep number) = limits.depth < e.depth
BreaksRule limits s earlier e (f.TooMuchText number) = ExceedsTextLimits limits s
    (earlier ++ e ∷ [])
BreaksRule limits s earlier e (f.DictionaryConflict number) = HasConflict earlier e
BreaksRule limits s earlier e (f.NestedDictionary number) = ¬ (IsSome e.dictionary → IsLeaf e.kind)
BreaksRule limits s earlier e f.OutOfMemory = ⊥

-- the entry at index k breaks the rule that the fault names
abbrev pub BreaksAt : Limits → Schema → ℕ → SchemaFault → Type 0
BreaksAt limits s k fault = (e : Entry)
    × ((slice_get (entries s.fields) k ≡ Some e)
    × BreaksRule limits s (take k (entries s.fields)) e fault)

-- the rank of a fault: of several faults of one entry, the one of lowest rank is returned
abbrev pub rank : SchemaFault → ℕ
rank (f.BadType number) = 1
rank (f.BadChildren number) = 2
rank (f.TooManyFields number) = 3
rank (f.TooDeep number) = 4
rank (f.TooMuchText number) = 5
rank (f.DictionaryConflict number) = 6
rank (f.NestedDictionary number) = 7
rank f.OutOfMemory = 8

-- the number of the entry that a fault names, counted from 1
abbrev pub entry_number : SchemaFault → ℕ
entry_number (f.BadType number) = number
entry_number (f.BadChildren number) = number
entry_number (f.TooManyFields number) = number
entry_number (f.TooDeep number) = number
entry_number (f.TooMuchText number) = number
entry_number (f.DictionaryConflict number) = number
entry_number (f.NestedDictionary number) = number
entry_number f.OutOfMemory = 0

-- the entry at index k has this fault, and none of lower rank; no earlier entry has a fault
pub record IsFirstAt (limits : Limits) (s : Schema) (k : ℕ) (fault : SchemaFault) : Type 0 where
  pub number : entry_number fault ≡ k + 1
  pub broken : BreaksAt limits s k fault
  pub reported_first : (other : SchemaFault) → BreaksAt limits s k other → rank fault ≤ rank other
  pub none_before : (j : ℕ) → j < k → (other : SchemaFault) → ¬ BreaksAt limits s j other

-- the first fault of a schema: of its own pairs, which are counted before its entries and have the
-- number 0, or of an entry
abbrev pub IsFirstFault : Limits → Schema → SchemaFault → Type 0
IsFirstFault limits s fault = (ExceedsTextLimits limits s [] × (fault ≡ f.TooMuchText 0))
    ⊎ (¬ ExceedsTextLimits limits s [] × ((k : ℕ) × IsFirstAt limits s k fault))
