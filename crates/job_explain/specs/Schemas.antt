-- The line for people that is printed after the line of a file that is not the JSON of a schema.
use Rattle.std.specs.Prelude.{◌≡◌, ◌⊎◌, ◌++◌, ℕ, List, [], codes, decimal}
use Rattle.std.specs.Str.{IsUtf8}
use Rattle.ipc_model.specs.Numbering.{fault_name, fault_number}
use Rattle.ipc_model.specs.Refusals.{reader_fault}
use Rattle.ipc_model.specs.Texts.{label}
use Rattle.ipc_model.specs.declared.check.SchemaFault.{SchemaFault}
use Rattle.ipc_text_json.specs.SchemaErrors.{IsErrorOf}
use Rattle.ipc_text_json.specs.declared.schema_errors.FieldPart.{FieldPart}
use Rattle.ipc_text_json.specs.declared.schema_errors.FieldPart.TheVariants as p
use Rattle.ipc_text_json.specs.declared.schema_errors.SchemaError.{SchemaError}
use Rattle.ipc_text_json.specs.declared.schema_errors.SchemaError.TheVariants as e

-- a space and the name of the member in quotes; nothing for the entry as a whole
abbrev pub member_words : FieldPart → List ℕ
member_words p.Keys = []
member_words p.Children = codes " \"children\""
member_words p.Dictionary = codes " \"dictionary\""
member_words p.Metadata = codes " \"metadata\""
member_words p.Name = codes " \"name\""
member_words p.Nullable = codes " \"nullable\""
member_words p.Type = codes " \"type\""

-- what is expected in the place of an entry, or as the value of its member
abbrev pub expected_words : FieldPart → List ℕ
expected_words p.Keys = codes "an object of \"children\", \"dictionary\", \"metadata\", \"name\", "
    ++ codes "\"nullable\" and \"type\""
expected_words p.Children = codes "the number of children"
expected_words p.Dictionary =
    codes "null or an array of an id, the type of the indices and true or false"
expected_words p.Metadata = codes "an array of pairs of strings"
expected_words p.Name = codes "a string"
expected_words p.Nullable = codes "true or false"
expected_words p.Type = codes "an array such as [\"int\",64] or [\"utf8\"]"

-- the words for a text that is not JSON from this place on
abbrev pub place_words : ℕ → ℕ → List ℕ
place_words line column = codes "line " ++ decimal line ++ codes " column " ++ decimal column
    ++ codes ": the text is not JSON"

-- the words for the entry with this index, of which this part is wrong
abbrev pub entry_words : ℕ → FieldPart → List ℕ
entry_words entry part = codes "fields[" ++ decimal entry ++ codes "]" ++ member_words part
    ++ codes ": expected " ++ expected_words part

-- the words for a schema that is refused: the number and the name of the reader's fault
abbrev pub refusal_words : SchemaFault → List ℕ
refusal_words fault = codes "the schema is refused: "
    ++ label (codes "F") (fault_number (reader_fault fault)) (fault_name (reader_fault fault))

-- the words for where a text is not the JSON of a schema, and what was expected there
abbrev pub error_words : SchemaError → List ℕ
error_words (e.NotJson line column) = place_words line column
error_words e.NotSchema = codes "expected an object of \"fields\", an array, and \"metadata\""
error_words (e.BadField entry part) = entry_words entry part
error_words e.BadMetadata = codes "\"metadata\": expected an array of pairs of strings"
error_words e.BadNesting = codes "\"fields\": the numbers of children do not fit the entries, "
    ++ codes "or fields are nested deeper than 64"
error_words (e.Refused fault) = refusal_words fault

-- the line that explains why a file with this text has no schema: the text is not UTF-8 (RFC 8259,
-- section 8.1), or why it is not the JSON of a schema
abbrev pub ExplainsSchema : List ℕ → List ℕ → Type 0
ExplainsSchema text out =
    ((IsUtf8 text → ⊥) × (out ≡ codes "the schema's file is not UTF-8\n"))
    ⊎ ((error : SchemaError) × IsUtf8 text × IsErrorOf text error
    × (out ≡ error_words error ++ codes "\n"))
