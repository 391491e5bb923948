-- The texts that are printed for a table, in each form: its schema and counts, its rows as JSON
-- (RFC 8259), or records of CSV (RFC 4180).
use Rattle.ipc_model.specs.declared.table.BatchRows.{BatchRows}
use Rattle.std.specs.Prelude.{◌≡◌, ◌⊎◌, ◌+◌, ◌<◌, ℕ, List, [], ◌∷◌, ◌++◌, length, take, codes}
use Rattle.std.specs.Prelude.{decimal, Option, None, Some, Result, Ok, Err, ⊤, true, false}
use Rattle.std.specs.Prelude.{slice_index_or}
use Rattle.std.specs.List.{AllByRecursion}
use Rattle.ipc_model.specs.declared.schema.Field.{Field}
use Rattle.ipc_model.specs.declared.schema.Schema.{Schema}
use Rattle.ipc_model.specs.declared.value.Value.{Value}
use Rattle.ipc_stream_read.specs.declared.end.End.{End}
use Rattle.ipc_stream_read.specs.declared.end.End.TheVariants.{Mark, Closed}
use Rattle.ipc_stream_read.specs.Counts.{count_up}
use Rattle.ipc_text_json.specs.RowJson.{row_text}
use Rattle.ipc_text_json.specs.SchemaJson.{pairs_text, schema_text}
use Rattle.ipc_text_csv.specs.RowCsv.{flat_fault, header_text, row_csv}
use Rattle.ipc_text_temporal.specs.declared.fault.TextFault.{TextFault}
use Rattle.job_print.specs.declared.form.Form.{Form}
use Rattle.job_print.specs.declared.form.Form.TheVariants.{Counts, Rows, Records}

-- the text, if there is one, else nothing
abbrev pub text_or_none : Result (List ℕ) TextFault → List ℕ
text_or_none (Ok text) = text
text_or_none (Err fault) = []

-- why columns cannot be printed in this form: CSV has no lists and structs, and needs at least one
-- column
abbrev pub form_fault : Form → List Field → Option TextFault
form_fault Counts fields = None
form_fault (Rows shape pairs) fields = None
form_fault (Records d) fields = flat_fault fields

-- the text before the rows: the schema as JSON before the counts, and a header in CSV
abbrev pub front_text : Form → Schema → List ℕ
front_text Counts s = schema_text s ++ 10 ∷ []
front_text (Rows shape pairs) s = []
front_text (Records d) s = text_or_none (header_text d s.fields)

-- the line of a batch's pairs: a JSON object with the one member `metadata`
abbrev pub pairs_line : List (List ℕ × List ℕ) → List ℕ
pairs_line pairs = codes "{\"metadata\":" ++ pairs_text pairs ++ codes "}\n"

-- the text before a batch's rows: the line of its pairs, if rows are printed with pairs
abbrev pub batch_heading : Form → List (List ℕ × List ℕ) → List ℕ
batch_heading Counts pairs = []
batch_heading (Rows shape true) pairs = pairs_line pairs
batch_heading (Rows shape false) pairs = []
batch_heading (Records d) pairs = []

-- the text of a row: its JSON text and a line feed, or its record in CSV, if it has one
abbrev pub line_of : Form → List Field → List Value → List ℕ
line_of Counts fields row = []
line_of (Rows shape pairs) fields row = row_text shape fields row ++ 10 ∷ []
line_of (Records d) fields row = text_or_none (row_csv d fields row)

-- why a row cannot be printed: CSV has no record for it
abbrev pub LacksRecord : Form → List Field → List Value → TextFault → Type 0
LacksRecord Counts fields row fault = ⊥
LacksRecord (Rows shape pairs) fields row fault = ⊥
LacksRecord (Records d) fields row fault = row_csv d fields row ≡ Err fault

-- the row can be printed: JSON has a text for each row; CSV must have a record for this one
abbrev pub HasLine : Form → List Field → List Value → Type 0
HasLine Counts fields row = ⊤
HasLine (Rows shape pairs) fields row = ⊤
HasLine (Records d) fields row = row_csv d fields row ≡ Ok (line_of (Records d) fields row)

-- the line of a row was appended to a text; or the row cannot be printed, and the text is unchanged
abbrev pub PutsLine : Form → List Field → List Value → List ℕ → List ℕ → Option TextFault → Type 0
PutsLine form fields row old new None =
    HasLine form fields row × (new ≡ old ++ line_of form fields row)
PutsLine form fields row old new (Some fault) = LacksRecord form fields row fault × (new ≡ old)

-- each of the rows can be printed
abbrev pub HaveLines : Form → List Field → List (List Value) → Type 0
HaveLines form fields rows = AllByRecursion (HasLine form fields) rows

-- each row of the batches can be printed
abbrev pub HaveAllLines : Form → List Field → List BatchRows → Type 0
HaveAllLines form fields batches = AllByRecursion (λ b. HaveLines form fields b.rows) batches

-- the row with this number is the first that cannot be printed, for this fault
pub record RefusesFirstRow (form : Form) (fields : List Field) (rows : List (List Value))
    (count : ℕ)
    (fault : TextFault) : Type 0 where
  pub inside : count < length rows
  pub before : HaveLines form fields (take count rows)
  pub lacks : LacksRecord form fields (slice_index_or rows count []) fault

-- how many rows batches have together
abbrev pub row_count : List BatchRows → ℕ
row_count [] = 0
row_count (b ∷ batches) = length b.rows + row_count batches

-- the text for how a stream ended
abbrev pub end_text : End → List ℕ
end_text Mark = codes "mark "
end_text Closed = codes "closed "

-- the text for how a stream of this many bytes ended, and how many batches and rows it has
abbrev pub counts_text : End → ℕ → ℕ → ℕ → List ℕ
counts_text end bytes batches rows =
    end_text end ++ decimal bytes ++ codes " bytes " ++ decimal batches ++ codes " batches "
    ++ decimal rows ++ codes " rows\n"

-- the text at the end of a stream with this many bytes, batches and rows
abbrev pub tail_of : Form → End → ℕ → ℕ → ℕ → List ℕ
tail_of Counts end bytes batches rows = counts_text end bytes batches rows
tail_of (Rows shape pairs) end bytes batches rows = []
tail_of (Records d) end bytes batches rows = []

-- the text at the end of a stream with these batches; a count stops at 2^64 - 1
abbrev pub tail_text : Form → End → ℕ → List BatchRows → List ℕ
tail_text form end bytes batches =
    tail_of form end bytes (count_up 0 (length batches)) (count_up 0 (row_count batches))

-- no text, or the text at the end of a stream with these batches
abbrev pub IsTail : Form → List BatchRows → List ℕ → Type 0
IsTail form batches tail = (tail ≡ [])
    ⊎ ((end : End) × ((bytes : ℕ) × (tail ≡ tail_text form end bytes batches)))
