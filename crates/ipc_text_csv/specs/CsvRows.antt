-- The rows that records of CSV denote in a dialect.
use Rattle.std.specs.Prelude.{◌≡◌, ◌≢◌, ◌⊎◌, ⊤, ℕ, ◌+◌, List, [], ◌∷◌, length, Some, None}
use Rattle.std.specs.Str.{IsUtf8}
use Rattle.hex.specs.Hex.{IsBytes}
use Rattle.ipc_model.specs.Fits.{Fits, IsOfKind}
use Rattle.ipc_model.specs.declared.schema.DataType.{DataType}
use Rattle.ipc_model.specs.declared.schema.Field.{Field, out-Field}
use Rattle.ipc_model.specs.declared.value.Value.{Value, out-Value}
use Rattle.ipc_model.specs.declared.value.Value.TheOpen.{Value-F}
use Rattle.ipc_text_csv.specs.CsvCells.{decoded_hex}
use Rattle.ipc_text_csv.specs.RowCsv.{value_text, chars_text, null_text, flat_fault}
use Rattle.ipc_text_csv.specs.declared.dialect.Dialect.{Dialect}
use Rattle.ipc_text_temporal.specs.declared.fault.TextFault.{TextFault}
use Rattle.ipc_text_temporal.specs.declared.fault.TextFault.TheVariants.{OutOfMemory, BadField}
use Rattle.ipc_text_temporal.specs.declared.fault.TextFault.TheVariants.{WrongFieldCount}

-- a value is the text that is written as this field
abbrev pub IsCharsOf : Dialect → List ℕ → Value-F Value → Type 0
IsCharsOf d text v =
    (chars : List ℕ) × (v ≡ Value-F.Text chars) × IsUtf8 chars × (chars_text d chars ≡ Some text)

-- a text denotes a value of this type: it is the text that is written for it; hexadecimal digits
-- may be of either case, but not those of the text of null
abbrev pub StandsFor : Dialect → DataType → List ℕ → Value-F Value → Type 0
StandsFor d kind text (Value-F.Bytes bytes) =
    (decoded_hex text ≡ Some bytes) × (text ≢ null_text d)
StandsFor d kind text (Value-F.Text chars) = IsUtf8 chars × (chars_text d chars ≡ Some text)
StandsFor d kind text v = value_text d kind v ≡ Some text

-- a text reads as a value of a field: it denotes the value, and the value fits the field
abbrev pub ReadsAs : Dialect → Field → List ℕ → Value → Type 0
ReadsAs d f text v = Fits f v × StandsFor d (out-Field f).kind text (out-Value v)

-- the texts of a record read as the values of a row, one for each column
abbrev pub EachReadsAs : Dialect → List Field → List (List ℕ) → List Value → Type 0
EachReadsAs d [] [] [] = ⊤
EachReadsAs d (f ∷ fs) (text ∷ texts) (v ∷ vs) = ReadsAs d f text v × EachReadsAs d fs texts vs
EachReadsAs d fs texts vs = ⊥

-- the texts of a record read as a row, and its columns can be written as CSV
abbrev pub RecordReadsAs : Dialect → List Field → List (List ℕ) → List Value → Type 0
RecordReadsAs d fields texts row = (flat_fault fields ≡ None) × EachReadsAs d fields texts row

-- the first column whose text reads as no value; the columns are numbered from `number` on
abbrev pub IsFirstBadColumn : Dialect → ℕ → List Field → List (List ℕ) → ℕ → Type 0
IsFirstBadColumn d number (f ∷ fs) (text ∷ texts) column =
    ((column ≡ number) × ((v : Value) → ¬ ReadsAs d f text v))
    ⊎ (((v : Value) × ReadsAs d f text v) × IsFirstBadColumn d (number + 1) fs texts column)
IsFirstBadColumn d number fs texts column = ⊥

-- the fault X4, with the number of the record and its first bad column; or out of memory
abbrev pub IsBadField : Dialect → ℕ → List Field → List (List ℕ) → TextFault → Type 0
IsBadField d number fields texts fault =
    (fault ≡ OutOfMemory)
    ⊎ ((column : ℕ) × (fault ≡ BadField number column) × IsFirstBadColumn d 0 fields texts column)

-- why the texts of the record with this number do not read as a row; memory may run out at any time
abbrev pub IsRecordFault : Dialect → ℕ → List Field → List (List ℕ) → TextFault → Type 0
IsRecordFault d number fields texts OutOfMemory = ⊤
IsRecordFault d number fields texts (WrongFieldCount line) =
    (flat_fault fields ≡ None) × (line ≡ number) × (length texts ≢ length fields)
IsRecordFault d number fields texts (BadField line column) =
    (flat_fault fields ≡ None) × (line ≡ number) × (length texts ≡ length fields)
    × IsFirstBadColumn d 0 fields texts column
IsRecordFault d number fields texts fault = flat_fault fields ≡ Some fault

-- the first column whose name differs from the header's; the columns are numbered from `number` on
abbrev pub IsFirstUnlike : ℕ → List Field → List (List ℕ) → ℕ → Type 0
IsFirstUnlike number (f ∷ fs) (text ∷ texts) column =
    ((column ≡ number) × (text ≢ (out-Field f).name))
    ⊎ ((text ≡ (out-Field f).name) × IsFirstUnlike (number + 1) fs texts column)
IsFirstUnlike number fs texts column = ⊥

-- why a record is not the header of these columns; the header is record 0
abbrev pub IsHeaderFault : List Field → List (List ℕ) → TextFault → Type 0
IsHeaderFault fields texts (WrongFieldCount line) =
    (flat_fault fields ≡ None) × (line ≡ 0) × (length texts ≢ length fields)
IsHeaderFault fields texts (BadField line column) =
    (flat_fault fields ≡ None) × (line ≡ 0) × (length texts ≡ length fields)
    × IsFirstUnlike 0 fields texts column
IsHeaderFault fields texts fault = flat_fault fields ≡ Some fault

-- what the types of a stored value ensure: bytes are below 256, and a text is UTF-8
abbrev pub IsStored : Value-F Value → Type 0
IsStored (Value-F.Bytes bytes) = IsBytes bytes
IsStored (Value-F.Text chars) = IsUtf8 chars
IsStored v = ⊤

-- a value is null, or of the type of its field
abbrev pub IsTyped : Field → Value-F Value → Type 0
IsTyped f Value-F.Null = ⊤
IsTyped f v = IsOfKind (out-Field f).kind (length (out-Field f).children) v

-- a row has one value for each column, which is null or of the column's type, with what the types
-- of stored values ensure (`IsStored`)
abbrev pub EachTyped : List Field → List Value → Type 0
EachTyped [] [] = ⊤
EachTyped (f ∷ fs) (v ∷ vs) =
    IsTyped f (out-Value v) × IsStored (out-Value v) × EachTyped fs vs
EachTyped fs vs = ⊥
