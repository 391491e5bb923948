-- How a path of numbers leads to a field of a schema, and the facts and texts of a field
-- (Schema.fbs, tables Schema and Field).
use Rattle.std.specs.Prelude.{◌≡◌, ◌≤◌, ◌⊎◌, ⊤, ℕ, List, [], ◌∷◌, length, slice_get}
use Rattle.std.specs.Prelude.{codes, false, Option, Some, None, Result, Ok, Err, string_bytes}
use Rattle.std.specs.declared.alloc.AllocError.{AllocError}
use Rattle.std.specs.declared.alloc.Global.{Global}
use Rattle.std.specs.declared.string.String.{String}
use Rattle.ipc_model.specs.declared.fault.Fault.{Fault}
use Rattle.ipc_model.specs.declared.fault.Fault.TheVariants.{OutOfMemory}
use Rattle.ipc_model.specs.declared.schema.Field.{Field, out-Field}
use Rattle.ipc_model.specs.declared.schema.Field.TheOpen.{Field-F}
use Rattle.ipc_model.specs.declared.schema.Schema.{Schema}
use Rattle.ipc_stream_session.specs.declared.field.FieldFacts.{FieldFacts}
use Rattle.ipc_stream_session.specs.declared.field.FieldText.{FieldText}
use Rattle.ipc_stream_session.specs.declared.field.FieldText.TheVariants as text
use Rattle.ipc_stream_session.specs.Formats.{slots_format, values_format}

-- the numbers lead, one after the other, from a field to the children below it
abbrev pub LeadsBelow : Field → List ℕ → Field → Type 0
LeadsBelow from [] to = to ≡ from
LeadsBelow from (step ∷ rest) to = (next : Field)
    × (slice_get (out-Field from).children step ≡ Some next) × LeadsBelow next rest to

-- one of the numbers is that of no child
abbrev pub StopsBelow : Field → List ℕ → Type 0
StopsBelow from [] = ⊥
StopsBelow from (step ∷ rest) = (length (out-Field from).children ≤ step) ⊎ ((next : Field)
    × (slice_get (out-Field from).children step ≡ Some next) × StopsBelow next rest)

-- the first number is that of one of these fields, and the others lead down from it
abbrev pub LeadsToField : List Field → ℕ → List ℕ → Field → Type 0
LeadsToField fields first rest to =
    (from : Field) × (slice_get fields first ≡ Some from) × LeadsBelow from rest to

-- the first number is that of no field, or one of the others is that of no child
abbrev pub LeadsToNoField : List Field → ℕ → List ℕ → Type 0
LeadsToNoField fields first rest = (length fields ≤ first)
    ⊎ ((from : Field) × (slice_get fields first ≡ Some from) × StopsBelow from rest)

-- the field to which the numbers lead, if there is one
abbrev pub IsFieldAt : List Field → ℕ → List ℕ → Option Field → Type 0
IsFieldAt fields first rest None = LeadsToNoField fields first rest
IsFieldAt fields first rest (Some found) = LeadsToField fields first rest found

-- the facts of a schema as a whole: a struct of its fields
pub record DescribesSchema (s : Schema) (facts : FieldFacts) : Type 0 where
  pub nullable : facts.nullable ≡ false
  pub dictionary : facts.dictionary ≡ None
  pub children : facts.children ≡ length s.fields
  pub pairs : facts.pairs ≡ length s.metadata

-- the facts of a field
pub record DescribesField (f : Field-F Field) (facts : FieldFacts) : Type 0 where
  pub nullable : facts.nullable ≡ f.nullable
  pub dictionary : facts.dictionary ≡ f.dictionary
  pub children : facts.children ≡ length f.children
  pub pairs : facts.pairs ≡ length f.metadata

-- the facts of a field, if there is one
abbrev pub Describes : Option Field → Option FieldFacts → Type 0
Describes None None = ⊤
Describes (Some found) (Some facts) = DescribesField (out-Field found) facts
Describes found facts = ⊥

-- an empty path leads to the schema as a whole, and another one to a field
abbrev pub FindsField : Schema → List ℕ → Option FieldFacts → Type 0
FindsField s [] None = ⊥
FindsField s [] (Some facts) = DescribesSchema s facts
FindsField s (first ∷ rest) answer = (found : Option Field) × IsFieldAt s.fields first rest found
    × Describes found answer

-- the key of a pair, if there is one
abbrev pub key_of : Option (List ℕ × List ℕ) → Option (List ℕ)
key_of None = None
key_of (Some pair) = Some pair.0

-- the value of a pair, if there is one
abbrev pub pair_value : Option (List ℕ × List ℕ) → Option (List ℕ)
pair_value None = None
pair_value (Some pair) = Some pair.1

-- one of the texts of a schema as a whole, which has no name and the type of a struct
abbrev pub text_of_schema : Schema → FieldText → Option (List ℕ)
text_of_schema s text.Name = Some []
text_of_schema s text.Format = Some (codes "+s")
text_of_schema s text.ValuesFormat = None
text_of_schema s (text.Key number) = key_of (slice_get s.metadata number)
text_of_schema s (text.Value number) = pair_value (slice_get s.metadata number)

-- one of the texts of a field
abbrev pub text_of_field : Field-F Field → FieldText → Option (List ℕ)
text_of_field f text.Name = Some f.name
text_of_field f text.Format = Some (slots_format f.kind f.dictionary)
text_of_field f text.ValuesFormat = values_format f.kind f.dictionary
text_of_field f (text.Key number) = key_of (slice_get f.metadata number)
text_of_field f (text.Value number) = pair_value (slice_get f.metadata number)

-- one of the texts of a field, if there is one
abbrev pub text_of : Option Field → FieldText → Option (List ℕ)
text_of None text = None
text_of (Some found) text = text_of_field (out-Field found) text

-- a copy of this text, unless memory ran out; or none, if there is no text
abbrev pub IsCopy : Option (List ℕ) → Result (Option (String Global)) Fault → Type 0
IsCopy None (Ok None) = ⊤
IsCopy (Some bytes) (Ok (Some copy)) = string_bytes copy ≡ bytes
IsCopy (Some bytes) (Err fault) = fault ≡ OutOfMemory
IsCopy bytes answer = ⊥

-- a text that was copied, or out of memory
abbrev pub IsOptional : Result (String Global) AllocError → Result (Option (String Global)) Fault
    → Type 0
IsOptional (Ok copy) answer = answer ≡ Ok (Some copy)
IsOptional (Err e) answer = answer ≡ Err OutOfMemory

-- a text of what the path leads to
abbrev pub FindsText : Schema → List ℕ → FieldText → Result (Option (String Global)) Fault → Type 0
FindsText s [] text answer = IsCopy (text_of_schema s text) answer
FindsText s (first ∷ rest) text answer =
    (found : Option Field) × IsFieldAt s.fields first rest found
    × IsCopy (text_of found text) answer

-- the facts of a field of the schema in force, if it came
abbrev pub FindsFieldIn : Option Schema → List ℕ → Option FieldFacts → Type 0
FindsFieldIn None path answer = answer ≡ None
FindsFieldIn (Some s) path answer = FindsField s path answer

-- a text of a field of the schema in force, if it came
abbrev pub FindsTextIn : Option Schema → List ℕ → FieldText → Result (Option (String Global)) Fault
    → Type 0
FindsTextIn None path text answer = answer ≡ Ok None
FindsTextIn (Some s) path text answer = FindsText s path text answer
