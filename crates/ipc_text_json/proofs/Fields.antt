-- A field by itself, of the values of its members.
use Rattle.std.proofs.Common.{◌≡◌, ◌∙◌, ℕ, List, Bool, Option, sym, ap, length, map}
use Rattle.std.proofs.Math.ListN.{replicate}
use Rattle.std.proofs.lemmas.List.{length-replicate}
use Rattle.std.specs.List.{AllByRecursion}
use Rattle.std.specs.Prelude.{◌≢◌, ⊤}
use Rattle.serde_json.specs.Data.{Data, boolean, number, string, unsigned}
use Rattle.serde_json.specs.View.{view, items_view}
use Rattle.serde_json.specs.declared.value.Value.{Value}
use Rattle.ipc_model.specs.Entries.{entries}
use Rattle.ipc_model.specs.declared.schema.DataType.{DataType}
use Rattle.ipc_model.specs.declared.schema.Dictionary.{Dictionary}
use Rattle.ipc_model.specs.declared.schema.Schema.{Schema}
use Rattle.ipc_text_json.specs.SchemaErrors.{IsField, IsPairs, IsValueError}
use Rattle.serde_json.specs.View.{items_of}
use Rattle.ipc_text_json.specs.SchemaJson.{dictionary_json, schema_json, type_json}
use Rattle.ipc_text_json.specs.SchemaMembers.{field_object, schema_object}
use Rattle.ipc_text_json.specs.SchemaTexts.{IsReadable}
use Rattle.ipc_text_json.specs.declared.schema_errors.SchemaError.TheVariants as e

-- a field with this number of children
pub field_of : (value c d m n u k : Data) (count : ℕ) (dictionary : Option Dictionary) (name : List ℕ) (nullable : Bool)
    → value ≡ field_object c d m n u k → c ≡ number (unsigned count) → d ≡ dictionary_json dictionary → IsPairs m
    → n ≡ string name → u ≡ boolean nullable → (kind : DataType) × (k ≡ type_json kind) → IsField value
field_of value c d m n u k count dictionary name nullable is ec ed em en eu ek =
    let children : List ⊤ = replicate count tt in
    let counted : c ≡ number (unsigned (length children)) =
    ec ∙ sym (ap (λ l. number (unsigned l)) (length-replicate count tt)) in (
      record {
        name = name;
        nullable = nullable;
        kind = ek.0;
        dictionary = dictionary;
        children = children;
        metadata = em.0;
      },
      is ∙ (λ i. field_object (counted i) (ed i) (em.1 i) (en i) (eu i) (ek.1 i)),
    )

-- where each entry is a field and the pairs are good, and yet the value is no schema's, the nesting is wrong
pub nesting_of : (value metadata : Data) (vs : List Value) → value ≡ schema_object (items_view vs) metadata → IsPairs metadata
    → AllByRecursion IsField (map view vs)
    → ((s : Schema) → AllByRecursion IsReadable (entries s.fields) → value ≢ schema_json s) → IsValueError value e.BadNesting
nesting_of value metadata vs is pairs all other = (
  map view vs,
  metadata,
  is,
  pairs,
  (
    all,
    λ fields readable same. other (record { fields = fields; metadata = pairs.0 }) readable
        (is ∙ (λ i. schema_object (ap items_of same i) (pairs.1 i))),
  ),
)
