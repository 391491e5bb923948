-- What is read of a schema's file, and the schema of its text.
use Rattle.std.proofs.Common.{◌≡◌, ◌∙◌, sym, ap, subst, ℕ, List, Option, Some, None, ◌⊎◌, ⊎_elim}
use Rattle.std.specs.Prelude.{◌≢◌, IfSome}
use Rattle.serde_json.specs.Read.{read}
use Rattle.ipc_model.specs.declared.schema.Schema.{Schema}
use Rattle.ipc_text_json.specs.SchemaTexts.{StatesSchema, StatesNoSchema}
use Rattle.ipc_text_temporal.specs.declared.fault.TextFault.{TextFault}
use Rattle.ipc_text_temporal.specs.declared.fault.TextFault.TheVariants.{OutOfMemory, BadSchemaJson}
use Rattle.job_command.specs.Jobs.{IsSchemaOf}

-- a schema of the bytes that were read is one of the file's
pub known : (bytes : Option (List ℕ)) (text seen : List ℕ) (s : Schema) → IfSome bytes (λ xs. text ≡ xs) → seen ≡ text
    → StatesSchema seen s → IsSchemaOf bytes s
known None text seen s held same is = record { read = tt; limits = is.limits; standard = is.standard; formed = is.well_formed }
known (Some xs) text seen s held same is = record {
  read = ap read (sym (same ∙ held)) ∙ is.json;
  limits = is.limits;
  standard = is.standard;
  formed = is.well_formed;
}

-- why the text of a file that was read to its end is that of no schema
pub none_of : (bytes : Option (List ℕ)) (failures : ℕ) (text seen : List ℕ) (fault : TextFault) → failures ≡ 0
    → IfSome bytes (λ xs. text ≡ xs) → seen ≡ text → fault ≢ OutOfMemory
    → (fault ≡ OutOfMemory) ⊎ ((fault ≡ BadSchemaJson) × StatesNoSchema seen)
    → (failures ≡ 0) × IfSome bytes (λ xs. text ≡ xs) × StatesNoSchema text
none_of bytes failures text seen fault works held same other h =
    ⊎_elim (λ e. absurd (other e)) (λ b. (works, held, subst StatesNoSchema same b.1)) h
