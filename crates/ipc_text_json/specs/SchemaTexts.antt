-- Which schemas can be read from JSON texts (RFC 8259).
use Rattle.std.specs.Prelude.{◌≡◌, ◌⊎◌, ⊤, ◌≤◌, ℕ, List, Option, Some, None, FitsSigned, IsUtf8}
use Rattle.std.specs.Int.{w64}
use Rattle.std.specs.List.{AllByRecursion}
use Rattle.serde_json.specs.Read.{read}
use Rattle.ipc_model.specs.Entries.{Entry, entries}
use Rattle.ipc_model.specs.Limits.{IsStandard}
use Rattle.ipc_model.specs.WellFormed.{HasGoodType, WellFormed}
use Rattle.ipc_model.specs.declared.limits.Limits.{Limits}
use Rattle.ipc_model.specs.declared.schema.DataType.{DataType}
use Rattle.ipc_model.specs.declared.schema.DataType.TheVariants as t
use Rattle.ipc_model.specs.declared.schema.Dictionary.{Dictionary}
use Rattle.ipc_model.specs.declared.schema.Schema.{Schema}
use Rattle.ipc_text_json.specs.SchemaJson.{schema_json}
use Rattle.ipc_text_temporal.specs.declared.fault.TextFault.{TextFault}
use Rattle.ipc_text_temporal.specs.declared.fault.TextFault.TheVariants.{BadSchemaJson, OutOfMemory}

-- why a text is not read: memory ran out, or it does not have the form of a schema's
abbrev pub IsUnread : TextFault → Type 0
IsUnread fault = (fault ≡ OutOfMemory) ⊎ (fault ≡ BadSchemaJson)

-- the id of a dictionary fits a signed 64-bit number (Schema.fbs, table DictionaryEncoding)
abbrev pub HasWideId : Option Dictionary → Type 0
HasWideId None = ⊤
HasWideId (Some d) = FitsSigned w64 d.id

-- a type that is no timestamp
abbrev pub IsZoneless : DataType → Type 0
IsZoneless (t.Timestamp unit timezone) = ⊥
IsZoneless kind = ⊤

-- a field that can be read: its type and its dictionary's id are in range, and its depth is at most
-- 64
abbrev pub IsReadable : Entry → Type 0
IsReadable e = HasGoodType e.kind × HasWideId e.dictionary × (e.depth ≤ 64)

-- these bytes are the JSON text of this schema, which is well formed under the standard limits: the
-- text is UTF-8 (RFC 8259, section 8.1), and its value is that of the schema
pub record StatesSchema (bytes : List ℕ) (s : Schema) : Type 0 where
  pub utf8 : IsUtf8 bytes
  pub json : read bytes ≡ Some (schema_json s)
  pub limits : Limits
  pub standard : IsStandard limits
  pub well_formed : WellFormed limits s

-- these bytes are the JSON text of no such schema whose dictionary ids fit 64 bits
abbrev pub StatesNoSchema : List ℕ → Type 0
StatesNoSchema bytes = (s : Schema) → StatesSchema bytes s
    → AllByRecursion (λ e. HasWideId e.dictionary) (entries s.fields) → ⊥
