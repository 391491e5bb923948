-- The schema that a JSON text states, or that it states none.
use Rattle.std.proofs.Common.{◌≡◌, ◌∙◌, sym, ap, ℕ, List, Some, ◌⊎◌, ⊎_elim, inl, inr}
use Rattle.std.proofs.Common.{Result, Ok, Err}
use Rattle.std.specs.Prelude.{IfOk, IfErr, MatchResult, IsUtf8}
use Rattle.std.specs.List.{AllByRecursion}
use Rattle.serde_json.specs.Read.{read}
use Rattle.ipc_model.specs.Entries.{entries}
use Rattle.ipc_model.specs.Limits.{IsStandard}
use Rattle.ipc_model.specs.WellFormed.{WellFormed}
use Rattle.ipc_model.specs.declared.limits.Limits.{Limits}
use Rattle.ipc_model.specs.declared.schema.Schema.{Schema}
use Rattle.ipc_text_json.specs.SchemaJson.{schema_json}
use Rattle.ipc_text_json.specs.SchemaTexts.{HasWideId, IsUnread, StatesSchema, StatesNoSchema}
use Rattle.ipc_text_temporal.specs.declared.fault.TextFault.{TextFault}
use Rattle.ipc_text_temporal.specs.declared.fault.TextFault.TheVariants.{OutOfMemory, BadSchemaJson}

-- what is read of a text is the schema that it states
pub stated : (r : Result Schema TextFault) (text seen : List ℕ) → seen ≡ text → IsUtf8 text
    → IfOk r (λ s. (read seen ≡ Some (schema_json s)) × ((limits : Limits) × IsStandard limits × WellFormed limits s))
    → IfOk r (StatesSchema text)
stated (Ok s) text seen same utf8 h = record {
  utf8 = utf8;
  json = ap read (sym same) ∙ h.0;
  limits = h.1.0;
  standard = h.1.1;
  well_formed = h.1.2;
}
stated (Err fault) text seen same utf8 h = tt

-- a text that is not read, memory aside, states no schema
pub unstated : (r : Result Schema TextFault) (text seen : List ℕ) → seen ≡ text → IfErr r IsUnread
    → ((s : Schema) (limits : Limits) → read seen ≡ Some (schema_json s) → IsStandard limits → WellFormed limits s
    → AllByRecursion (λ e. HasWideId e.dictionary) (entries s.fields)
    → MatchResult r (λ given. given ≡ s) (λ fault. fault ≡ OutOfMemory))
    → IfErr r (λ fault. (fault ≡ OutOfMemory) ⊎ ((fault ≡ BadSchemaJson) × StatesNoSchema text))
unstated (Ok s) text seen same h all = tt
unstated (Err fault) text seen same h all = ⊎_elim (λ e. inl e) (λ bad. inr (
  bad,
  λ s is ids. let e = all s is.limits (ap read same ∙ is.json) is.standard is.well_formed ids in absurd cc,
)) h
