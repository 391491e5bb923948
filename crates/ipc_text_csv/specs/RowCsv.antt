-- The CSV text of a row (RFC 4180) in a dialect, as the crate `csv` writes it with this delimiter.
-- A date, a point in time or a text may have none.
use Rattle.std.specs.Prelude.{◌≡◌, ◌⊎◌, ℕ, zero, suc, ◌+◌, ◌==◌, ◌||◌, ℤ, Bool, true, false}
use Rattle.std.specs.Prelude.{if◌then◌else◌, List, [], ◌∷◌, ◌++◌, map, length, codes, decimal}
use Rattle.std.specs.Prelude.{Option, Some, None, option_map, Result, Ok, Err}
use Rattle.std.specs.Fmt.{signed_decimal}
use Rattle.std.specs.List.{list_any, starts_with}
use Rattle.std.specs.Str.{bytes_eq}
use Rattle.csv.specs.Writing as csv
use Rattle.csv.specs.Writing.{backslash}
use Rattle.hex.specs.Hex.{encode_lower}
use Rattle.ipc_model.specs.RowFaults.{is_null_type}
use Rattle.ipc_model.specs.declared.schema.DataType.{DataType}
use Rattle.ipc_model.specs.declared.schema.DataType.TheVariants as t
use Rattle.ipc_model.specs.declared.schema.Field.{Field, out-Field}
use Rattle.ipc_model.specs.declared.value.Value.{Value, out-Value}
use Rattle.ipc_model.specs.declared.value.Value.TheOpen.{Value-F}
use Rattle.ipc_text_csv.specs.Dialects.{writer, standard_null}
use Rattle.ipc_text_csv.specs.declared.dialect.Dialect.{Dialect}
use Rattle.ipc_text_temporal.specs.Temporals.{temporal_or}
use Rattle.ipc_text_temporal.specs.declared.fault.TextFault.{TextFault}
use Rattle.ipc_text_temporal.specs.declared.fault.TextFault.TheVariants.{NotFlat, NoColumns}
use Rattle.ipc_text_temporal.specs.declared.fault.TextFault.TheVariants.{NoTextForm}
use Rattle.ipc_text_temporal.specs.declared.fault.TextFault.TheVariants.{OutOfMemory}

-- the text of null
abbrev pub null_text : Dialect → List ℕ
null_text d = d.null.now

-- the text of a boolean
abbrev pub bool_text : Bool → List ℕ
bool_text true = codes "true"
bool_text false = codes "false"

-- a text, with one more backslash before it if it begins with one, so that it is not `\N`
abbrev pub with_backslash : List ℕ → List ℕ
with_backslash [] = []
with_backslash (b ∷ bs) = if b == backslash then backslash ∷ b ∷ bs else b ∷ bs

-- the text, unless it is that of null
abbrev pub unless_null : Dialect → List ℕ → Option (List ℕ)
unless_null d text = if bytes_eq text (null_text d) then None else Some text

-- the text of a text, if it has one: if null is `\N`, a backslash before it is doubled; if not, the
-- text is unchanged, and that of null has none
abbrev pub chars_text : Dialect → List ℕ → Option (List ℕ)
chars_text d text =
    if bytes_eq (null_text d) standard_null then Some (with_backslash text) else unless_null d text

-- the text of a signed number of this type; for a date, a time or a point in time, its text if it
-- has one
abbrev pub int_text : DataType → ℤ → Option (List ℕ)
int_text kind z = temporal_or (Some (signed_decimal z)) kind z

-- the text of a value of this type, if it has one; bytes are written as lower-case hexadecimal
-- digits
abbrev pub value_text : Dialect → DataType → Value-F Value → Option (List ℕ)
value_text d kind Value-F.Null = Some (null_text d)
value_text d kind (Value-F.Bool truth) = Some (bool_text truth)
value_text d kind (Value-F.Int z) = int_text kind z
value_text d kind (Value-F.UInt n) = Some (decimal n)
value_text d kind (Value-F.Bytes bytes) = unless_null d (encode_lower bytes)
value_text d kind (Value-F.Text text) = chars_text d text
value_text d kind (Value-F.List vs) = None
value_text d kind (Value-F.Struct vs) = None

-- whether null fits a field: the field is nullable, or its type is Null
abbrev pub allows_null : Field → Bool
allows_null f = (out-Field f).nullable || is_null_type (out-Field f).kind

-- the text of a value of a field, if it has one: null has one only in a field that allows it
abbrev pub own_text : Dialect → Field → Value-F Value → Option (List ℕ)
own_text d f Value-F.Null = if allows_null f then Some (null_text d) else None
own_text d f v = value_text d (out-Field f).kind v

-- the text of a value of a field, if it has one (`own_text`)
abbrev pub csv_text : Dialect → Field → Value → Option (List ℕ)
csv_text d f v = own_text d f (out-Value v)

-- a text, followed by a field's text, in quotes if it needs them beside this delimiter
abbrev pub with_field : ℕ → List ℕ → List ℕ → List ℕ
with_field delimiter text field = text ++ csv.field_text (writer delimiter) field

-- there is a text, and it was appended as a field
abbrev pub Appended : ℕ → List ℕ → Option (List ℕ) → List ℕ → Type 0
Appended delimiter before text after = Some after ≡ option_map (with_field delimiter before) text

-- why a value was not written in this column: it has no text, or memory ran out
abbrev pub RefusesValue : ℕ → Option (List ℕ) → TextFault → Type 0
RefusesValue column text fault =
    (fault ≡ OutOfMemory) ⊎ ((fault ≡ NoTextForm column) × (text ≡ None))

-- the fault is the wanted one, or that memory ran out
abbrev pub IsRefusal : {A : Type 0} → Result A TextFault → TextFault → Type 0
IsRefusal wanted fault = (fault ≡ OutOfMemory) ⊎ (wanted ≡ Err fault)

-- whether the values of a type contain other values
abbrev pub is_nested : DataType → Bool
is_nested t.List = true
is_nested (t.FixedSizeList size) = true
is_nested t.Struct = true
is_nested t.Null = false
is_nested t.Bool = false
is_nested (t.Int bits signed) = false
is_nested t.Binary = false
is_nested t.Utf8 = false
is_nested (t.FixedSizeBinary width) = false
is_nested (t.Date unit) = false
is_nested (t.Time unit) = false
is_nested (t.Timestamp unit timezone) = false
is_nested (t.Duration unit) = false

-- the texts of values, each by the column at its index
abbrev pub each_text : Dialect → List Field → List Value → List (Option (List ℕ))
each_text d [] vs = []
each_text d (f ∷ fs) [] = []
each_text d (f ∷ fs) (v ∷ vs) = csv_text d f v ∷ each_text d fs vs

-- a text before others, unless there is a fault
abbrev pub in_front : List ℕ → Result (List (List ℕ)) TextFault → Result (List (List ℕ)) TextFault
in_front text (Ok texts) = Ok (text ∷ texts)
in_front text (Err fault) = Err fault

-- all the texts, or the fault of the first column without one; the columns are numbered from
-- `number` on
abbrev pub all_texts : ℕ → List (Option (List ℕ)) → Result (List (List ℕ)) TextFault
all_texts number [] = Ok []
all_texts number (None ∷ cells) = Err (NoTextForm number)
all_texts number (Some text ∷ cells) = in_front text (all_texts (number + 1) cells)

-- the texts of a row
abbrev pub row_texts : Dialect → List Field → List Value → Result (List (List ℕ)) TextFault
row_texts d fields row = all_texts 0 (each_text d fields row)

-- the columns' names
abbrev pub names : List Field → List (List ℕ)
names fields = map (λ f. (out-Field f).name) fields

-- why columns cannot be written as CSV: one is a list or a struct, or there are none
abbrev pub flat_fault : List Field → Option TextFault
flat_fault fields =
    if list_any (λ f. is_nested (out-Field f).kind) fields then Some NotFlat
    else if length fields == 0 then Some NoColumns else None

-- the record of these texts, or the fault
abbrev pub record_of : Dialect → Result (List (List ℕ)) TextFault → Result (List ℕ) TextFault
record_of d (Ok texts) = Ok (csv.row_text (writer d.delimiter) texts)
record_of d (Err fault) = Err fault

-- the fault, if there is one, and else x
abbrev pub unless_fault : {A : Type 0} → Option TextFault → Result A TextFault → Result A TextFault
unless_fault (Some fault) x = Err fault
unless_fault None x = x

-- a text begins with the byte order mark, U+FEFF in UTF-8
abbrev pub begins_with_mark : List ℕ → Bool
begins_with_mark text = starts_with ◌==◌ text (0xEF ∷ 0xBB ∷ 0xBF ∷ [])

-- the first name as a field: also in quotes if it begins with a byte order mark, because a reader
-- drops one at the start of its input
abbrev pub first_name : Dialect → List ℕ → List ℕ
first_name d name = if begins_with_mark name then csv.quoted (writer d.delimiter) name
    else csv.field_text (writer d.delimiter) name

-- names as fields, with the delimiters between them
abbrev pub names_text : Dialect → List (List ℕ) → List ℕ
names_text d [] = []
names_text d (name ∷ rest) = first_name d name ++ csv.fields_text (writer d.delimiter) rest

-- the fields of a record and its end: a line feed, after two quotes if the fields are empty
abbrev pub with_end : List ℕ → List ℕ
with_end text = text ++ (if length text == 0 then 34 ∷ 34 ∷ 10 ∷ [] else 10 ∷ [])

-- the header: the record of the columns' names, unchanged
abbrev pub header_text : Dialect → List Field → Result (List ℕ) TextFault
header_text d fields =
    unless_fault (flat_fault fields) (Ok (with_end (names_text d (names fields))))

-- the record of a row
abbrev pub row_csv : Dialect → List Field → List Value → Result (List ℕ) TextFault
row_csv d fields row = unless_fault (flat_fault fields) (record_of d (row_texts d fields row))

-- the fields of a record from the column with this number on, with the separators between them
abbrev pub body_from : ℕ → ℕ → List (List ℕ) → List ℕ
body_from delimiter zero texts = csv.row_body (writer delimiter) texts
body_from delimiter (suc n) texts = csv.fields_text (writer delimiter) texts

-- a text, followed by these fields, or the fault
abbrev pub with_fields : ℕ → ℕ → List ℕ → Result (List (List ℕ)) TextFault
    → Result (List ℕ) TextFault
with_fields delimiter number text (Ok fields) = Ok (text ++ body_from delimiter number fields)
with_fields delimiter number text (Err fault) = Err fault

-- if the bytes from `start` on were the fields of a record, they are now the whole record; the
-- bytes before them are unchanged
abbrev pub Ended : ℕ → ℕ → List ℕ → List ℕ → Type 0
Ended delimiter start old new =
    (before : List ℕ) (texts : List (List ℕ)) → length before ≡ start
    → old ≡ before ++ csv.row_body (writer delimiter) texts
    → new ≡ before ++ csv.row_text (writer delimiter) texts

-- a text, followed by a row's fields, or the fault
abbrev pub put_texts : Dialect → List ℕ → List Field → List Value → Result (List ℕ) TextFault
put_texts d text fields row = with_fields d.delimiter 0 text (row_texts d fields row)
