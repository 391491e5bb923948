-- The dictionaries that the fields of a schema name (Schema.fbs, table DictionaryEncoding).
use Rattle.std.specs.Prelude.{ℕ, ◌^◌, ◌-◌, min, Bool, ℤ, List, [], ◌∷◌, ◌++◌, map, Option, Some}
use Rattle.std.specs.Prelude.{None, true, false, if◌then◌else◌}
use Rattle.std.specs.Ordering.{int_eq}
use Rattle.ipc_model.specs.declared.schema.IntBits.{IntBits}
use Rattle.ipc_model.specs.declared.schema.IntBits.TheVariants as b
use Rattle.ipc_model.specs.declared.schema.Dictionary.{Dictionary}
use Rattle.ipc_model.specs.declared.schema.Field.{Field, fold-Field}
use Rattle.ipc_model.specs.declared.schema.Field.TheOpen.{Field-F}
use Rattle.std.specs.List.{flat_map}
use Rattle.ipc_dict.specs.declared.entry.TallyEntry.{TallyEntry}
use Rattle.ipc_dict.specs.declared.kept.KeptEntry.{KeptEntry}

-- the dictionary of a field itself, if it has one
abbrev pub own : Option Dictionary → List Dictionary
own (Some d) = d ∷ []
own None = []

-- a field's own dictionary, then those of its children
abbrev pub field_step : Field-F (List Dictionary) → List Dictionary
field_step f = own f.dictionary ++ flat_map (λ c. c) f.children

-- the dictionaries of a field and of all below it, in pre-order
abbrev pub of_field : Field → List Dictionary
of_field = fold-Field (List Dictionary) field_step

-- the dictionaries of several fields and of all below them, in pre-order
abbrev pub of_fields : List Field → List Dictionary
of_fields fields = flat_map (λ c. c) (map of_field fields)

-- how many values indices of this width and sign can address, from 0 up to the greatest number of
-- the type (Schema.fbs, table DictionaryEncoding, `indexType`)
abbrev pub index_type_capacity : IntBits → Bool → ℕ
index_type_capacity b.B8 true = 2 ^ 7
index_type_capacity b.B8 false = 2 ^ 8
index_type_capacity b.B16 true = 2 ^ 15
index_type_capacity b.B16 false = 2 ^ 16
index_type_capacity b.B32 true = 2 ^ 31
index_type_capacity b.B32 false = 2 ^ 32
index_type_capacity b.B64 true = 2 ^ 63
index_type_capacity b.B64 false = 2 ^ 64

-- how many values a dictionary's indices can address, at most 2^64 - 1
abbrev pub index_capacity : Dictionary → ℕ
index_capacity d = min (index_type_capacity d.index.bits d.index.signed) (2 ^ 64 - 1)

-- ---- the entries of a tally without values, and of a writer that has sent nothing

-- the entry for a dictionary that only one field names
abbrev pub fresh : Dictionary → TallyEntry
fresh d = record { id = d.id; limit = index_capacity d; values = [] }

-- the entries after one more field's dictionary; an id has one entry, with the least count of its
-- fields
abbrev pub with_field : List TallyEntry → Dictionary → List TallyEntry
with_field [] d = fresh d ∷ []
with_field (e ∷ es) d =
    if int_eq e.id d.id
    then record e { limit = min e.limit (index_capacity d) } ∷ es
    else e ∷ with_field es d

-- the entries after several fields' dictionaries, in turn
abbrev pub with_fields : List TallyEntry → List Dictionary → List TallyEntry
with_fields es [] = es
with_fields es (d ∷ ds) = with_fields (with_field es d) ds

-- one entry for each id that the fields name, in pre-order without repeats, each without values
abbrev pub empty_entries : List Field → List TallyEntry
empty_entries fields = with_fields [] (of_fields fields)

-- the ids that the fields name, in pre-order without repeats
abbrev pub ids_of : List Field → List ℤ
ids_of fields = map (λ e. e.id) (empty_entries fields)

-- the ids of a tally or a plan
abbrev pub tally_ids : List TallyEntry → List ℤ
tally_ids es = map (λ e. e.id) es

-- the id of each dictionary of a tally or a plan, and how many values it may have
abbrev pub tally_bounds : List TallyEntry → List (ℤ × ℕ)
tally_bounds es = map (λ e. (e.id, e.limit)) es

-- the ids of what was sent
abbrev pub kept_ids : List KeptEntry → List ℤ
kept_ids es = map (λ e. e.id) es

-- the state before anything was sent of these ids
abbrev pub nothing_sent : List ℤ → List KeptEntry
nothing_sent ids = map (λ id. record { id = id; values = None; sent = 0 }) ids
