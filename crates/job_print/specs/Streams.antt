-- What is read from a stream and printed, for each result.
use Rattle.ipc_model.specs.declared.table.BatchRows.{BatchRows}
use Rattle.std.specs.Prelude.{◌≡◌, ◌≢◌, ◌⊎◌, ◌+◌, ◌≤◌, ℕ, List, [], ◌∷◌, ◌++◌, length, map, take}
use Rattle.std.specs.Prelude.{IsTrue, Option, Some, None}
use Rattle.std.specs.Prelude.{Result, Ok, Err, ⊤, Contains}
use Rattle.std.specs.Io.KnownBytes.{Appends, Consumes, IsAtEnd, Keeps}
use Rattle.ipc_model.specs.declared.fault.Fault.{Fault}
use Rattle.ipc_model.specs.declared.fault.Fault.TheVariants.{OutOfMemory, Read}
use Rattle.ipc_model.specs.declared.fault.WriteFault.{WriteFault}
use Rattle.ipc_model.specs.declared.fault.WriteFault.TheVariants as w
use Rattle.ipc_model.specs.Numbering.{write_fault_status}
use Rattle.ipc_model.specs.declared.limits.Limits.{Limits}
use Rattle.ipc_model.specs.declared.schema.Field.{Field}
use Rattle.ipc_model.specs.declared.schema.Schema.{Schema}
use Rattle.ipc_model.specs.declared.table.Table.{Table}
use Rattle.ipc_model.specs.declared.value.Value.{Value}
use Rattle.ipc_stream_read.specs.declared.end.End.{End}
use Rattle.ipc_stream_read.specs.declared.end.End.TheVariants.{Closed, Mark}
use Rattle.ipc_stream_read.specs.declared.read_stop.ReadStop.{ReadStop}
use Rattle.ipc_stream_read.specs.declared.read_stop.ReadStop.TheVariants as read_stop
use Rattle.ipc_stream_read.specs.Stream.{State, MessageEvent, schema, batch, initial_state, Run}
use Rattle.ipc_stream_read.specs.Stream.{events_of, Denotes, OpensStream}
use Rattle.ipc_frame.specs.Failures.{CountsFault, CountsSinkFault}
use Rattle.ipc_stream_read.specs.Ends.{as_required}
use Rattle.ipc_stream_read.specs.Reasons.{Ends, IsOutside, Reads}
use Rattle.ipc_stream_read.specs.Reader.{Reader, in_force_of}
use Rattle.ipc_stream_read.specs.Counts.{count_up, messages_in}
use Rattle.ipc_text_json.specs.SchemaJson.{schema_text}
use Rattle.ipc_text_temporal.specs.declared.fault.TextFault.{TextFault}
use Rattle.job_expect.specs.Differences.{IsExpected, IsOther}
use Rattle.job_print.specs.declared.form.Form.{Form}
use Rattle.job_print.specs.declared.form.PrintOptions.{PrintOptions}
use Rattle.job_print.specs.declared.line_buffer.PrintFault.{PrintFault}
use Rattle.job_print.specs.declared.line_buffer.PrintFault.TheVariants as p
use Rattle.job_print.specs.declared.stop.PrintStop.{PrintStop}
use Rattle.job_print.specs.declared.stop.PrintStop.TheVariants as stop
use Rattle.job_print.specs.declared.stop.Outcome.{Outcome}
use Rattle.job_print.specs.declared.stop.PrintCounts.{PrintCounts}
use Rattle.job_print.specs.declared.stop.Outcome.TheVariants as o
use Rattle.job_print.specs.FirstRows.{within, AreWanted, HasReached, WantsMoreRows}
use Rattle.job_print.specs.FirstRows.{IsWithinRowLimit}
use Rattle.job_print.specs.Forms.{form_fault, front_text, batch_heading, line_of, HaveLines, IsTail}
use Rattle.job_print.specs.Forms.{row_count, tail_of, tail_text}
use Rattle.job_print.specs.Forms.{HaveAllLines, RefusesFirstRow}
use Rattle.job_print.specs.Output.{Output, output, AppendsText, Puts, PutFails}
use Rattle.job_print.specs.Rows.{lines, batch_lines, last_lines}

-- the text that is printed for batches with these columns: the front, and for each batch its head
-- and a line for each row
abbrev pub stream_text : Form → Schema → List BatchRows → List ℕ
stream_text form s batches =
    front_text form s ++ batch_lines (batch_heading form) (line_of form s.fields) batches

-- the text of the last batch; without batches, that of the front
abbrev pub last_batch_text : Form → Schema → List BatchRows → List ℕ
last_batch_text form s batches =
    last_lines (front_text form s) (batch_heading form) (line_of form s.fields) batches

-- the bytes that were taken denote a table and its end, which is the end mark if that is required,
-- and exactly its text was printed: the front, the rows in order, and the text at the end. Under a
-- limit, the table has fewer rows
pub record PrintsTable (options : PrintOptions) (limits : Limits)
    (old new written_old written_new : Option (List ℕ)) : Type 0 where
  pub x : List ℕ
  pub table : Table
  pub end : End
  pub bytes : Consumes old new x
  pub denotes : Denotes limits x table end
  pub closed : end ≡ Closed → IsAtEnd new
  pub marked : IsTrue options.require_mark → end ≡ Mark
  pub below : WantsMoreRows options.limit (row_count table.batches)
  pub fits : form_fault options.form table.schema.fields ≡ None
  pub rows : HaveAllLines options.form table.schema.fields table.batches
  pub text : Appends written_old written_new (stream_text options.form table.schema table.batches
      ++ tail_text options.form end (count_up 0 (length x)) table.batches)

-- the bytes that were taken are the message of a table's schema, other messages with its batches,
-- and the end; this number counts the messages
abbrev pub HasMessages : Limits → Option (List ℕ) → Option (List ℕ) → Table → End → ℕ → Type 0
HasMessages limits old new t end messages =
    (x y : List ℕ) × Consumes old new (x ++ y) × OpensStream limits t.schema x
    × ((reads : Reads limits (Some (initial_state t.schema)) y new (map batch t.batches) (Ok end))
    × (messages ≡ count_up 1 (messages_in reads.run)))

-- no shorter beginning of these bytes is messages that report these events
abbrev pub AreShortest : Limits → State → List ℕ → List MessageEvent → Type 0
AreShortest limits σ x events =
    (y z : List ℕ) (τ : State) → x ≡ y ++ z → Run limits σ y events τ → z ≡ []

-- the bytes that were taken are the messages of a schema, and of batches up to that one in which
-- the rows reach the limit; no shorter beginning of them reports these. Exactly the text of these
-- rows was printed: the front, and the rows up to the limit in order
pub record PrintsFirst (options : PrintOptions) (limits : Limits)
    (old new written_old written_new : Option (List ℕ)) : Type 0 where
  pub x : List ℕ
  pub table : Table
  pub state : State
  pub bytes : Consumes old new x
  pub run : Run limits None x (events_of table) state
  pub shortest : AreShortest limits None x (events_of table)
  pub reached : HasReached options.limit (row_count table.batches)
  pub wanted : AreWanted options.limit table.batches
  pub fits : form_fault options.form table.schema.fields ≡ None
  pub rows : HaveAllLines options.form table.schema.fields (within options.limit table.batches)
  pub text : Appends written_old written_new
      (stream_text options.form table.schema (within options.limit table.batches))

-- why a stream is not read to its end, what was printed before, and the number of the message at
-- which reading broke off: the count of the messages before it
pub data EndsPrinting (options : PrintOptions) (limits : Limits)
    (old new written_old written_new : Option (List ℕ)) (fault : Fault) (message : ℕ) : Type 0 where
  -- no schema was read, and nothing was printed
  unopened : (x : List ℕ) → Consumes old new x → Reads limits None x new [] (Err fault)
      → message ≡ 0 → Keeps written_old written_new
      → EndsPrinting options limits old new written_old written_new fault message
  -- reading broke off after a schema and batches, whose text was printed, or it ended there without
  -- the mark that is required; the messages that were read are counted, the schema's included. The
  -- rows are below the limit
  broken : (x y : List ℕ) (table : Table) (answer : Result End Fault) → Consumes old new (x ++ y)
      → OpensStream limits table.schema x
      → (reads : Reads limits (Some (initial_state table.schema)) y new (map batch table.batches)
      answer) → as_required options.require_mark answer ≡ Err fault
      → message ≡ count_up 1 (messages_in reads.run)
      → WantsMoreRows options.limit (row_count table.batches)
      → HaveAllLines options.form table.schema.fields table.batches
      → Appends written_old written_new (stream_text options.form table.schema table.batches)
      → EndsPrinting options limits old new written_old written_new fault message

-- why a table that is read is not printed to its end, and what was printed before
pub data StopsPrinting (options : PrintOptions) (limits : Limits)
    (old new written_old written_new : Option (List ℕ)) (fault : TextFault) : Type 0 where
  -- the columns cannot be printed in this form
  unfit : (x : List ℕ) (s : Schema) (σ : State) → Consumes old new x
      → Run limits None x (schema s ∷ []) σ → form_fault options.form s.fields ≡ Some fault
      → Keeps written_old written_new → StopsPrinting options limits old new written_old written_new
      fault
  -- a row of the last batch that was read, below the limit, has no text; all the text before it was
  -- printed
  refused : (x : List ℕ) (table : Table) (last : BatchRows) (count : ℕ) (σ : State)
      → Consumes old new x
      → Run limits None x (events_of table ++ batch last ∷ []) σ
      → WantsMoreRows options.limit (row_count table.batches + count)
      → HaveAllLines options.form table.schema.fields table.batches
      → RefusesFirstRow options.form table.schema.fields last.rows count fault
      → Appends written_old written_new
      (stream_text options.form table.schema table.batches
      ++ (batch_heading options.form last.pairs
      ++ lines (line_of options.form table.schema.fields) (take count last.rows)))
      → StopsPrinting options limits old new written_old written_new fault

-- after these batches either nothing was taken, or the end of the stream; or none of their text is
-- missing
abbrev pub AreLast : Limits → State → List ℕ → Option (List ℕ) → List ℕ → Type 0
AreLast limits σ rest left missing = (rest ≡ []) ⊎ ((missing ≡ [])
    ⊎ ((end : End) × Ends limits σ rest left (Ok end)))

-- for each result: a beginning of the text of batches that were read was printed, up to the limit.
-- What is missing is at most the text of the last of them and of the end. No batch was read after
-- one whose text is missing in part, and none after the limit
pub data PrintsSome (options : PrintOptions) (limits : Limits)
    (old new written_old written_new : Option (List ℕ)) : Type 0 where
  -- no schema was read
  unread : (x : List ℕ) (fault : Fault) → Consumes old new x
      → Reads limits None x new [] (Err fault) → Keeps written_old written_new
      → PrintsSome options limits old new written_old written_new
  -- the schema alone was read, and nothing was printed
  alone : (x : List ℕ) (s : Schema) (σ : State) → Consumes old new x
      → Run limits None x (schema s ∷ []) σ → Keeps written_old written_new
      → PrintsSome options limits old new written_old written_new
  some : (x rest behind tail : List ℕ) (table : Table) (σ : State) → Consumes old new (x ++ rest)
      → Run limits None x (events_of table) σ → IsWithinRowLimit options.limit table.batches rest
      tail
      → IsTail options.form table.batches tail
      → AppendsText written_old [] written_new behind
      (stream_text options.form table.schema (within options.limit table.batches) ++ tail)
      → length behind
      ≤ length (last_batch_text options.form table.schema (within options.limit table.batches)
      ++ tail)
      → AreLast limits σ rest new behind
      → PrintsSome options limits old new written_old written_new

-- why reading stopped, at the message with this number
abbrev pub stop_of_reading : ReadStop → ℕ → PrintStop
stop_of_reading (read_stop.Refused fault) message = stop.Read fault message
stop_of_reading read_stop.Held message = stop.Held message

-- the message of a schema alone was taken, and nothing was printed
pub record ReadsSchemaAlone (limits : Limits)
    (old new written_old written_new : Option (List ℕ)) : Type 0 where
  pub x : List ℕ
  pub schema : Schema
  pub bytes : Consumes old new x
  pub opens : OpensStream limits schema x
  pub silent : Keeps written_old written_new

-- the result if the source begins with the message of this schema, where a schema may be expected.
-- Another one is refused before anything is printed, unless the source fails, memory runs out or
-- more would be held
abbrev pub AnswersExpected : {T : Type 0} → Option Schema → Schema → Option (List ℕ)
    → Option (List ℕ) → Result T PrintStop → Type 0
AnswersExpected expected s written_old written_new (Ok done) = IsExpected expected s
AnswersExpected expected s written_old written_new (Err (stop.Read fault message)) =
    IsExpected expected s ⊎ (IsOutside fault × Keeps written_old written_new)
AnswersExpected expected s written_old written_new (Err (stop.Text fault)) = IsExpected expected s
AnswersExpected expected s written_old written_new (Err (stop.Write fault)) =
    IsExpected expected s ⊎ ((fault ≡ w.OutOfMemory) × Keeps written_old written_new)
AnswersExpected expected s written_old written_new (Err (stop.Held message)) =
    IsExpected expected s ⊎ Keeps written_old written_new
AnswersExpected expected s written_old written_new (Err (stop.OtherSchema path)) =
    IsOther expected s path.items

-- the result is that more bytes would be held than the maximum
abbrev pub IsHeld : {T : Type 0} → Result T PrintStop → Type 0
IsHeld (Err (stop.Held message)) = ⊤
IsHeld r = ⊥

-- the counts of failures of source and sink before and after a call with this result. At Ok neither
-- ever failed. At `Read` the source's count is 1 if the fault is F36, and another fault leaves it;
-- the sink's is left. At `Text` the source never failed, and the sink's count is left. At `Write`
-- the sink's count is 1 if the fault is W9, and any other fault leaves both. So of devices that had
-- not failed before, F36 and W9 name the one that failed; if both failed, the answer is W9. At the
-- maximum of held bytes both counts are left. At another schema the counts are as at `Text`
abbrev pub CountsPrintFailures : {T : Type 0} → ℕ → ℕ → ℕ → ℕ → Result T PrintStop → Type 0
CountsPrintFailures source_old source_new sink_old sink_new (Ok done) =
    (source_old ≡ 0) × (source_new ≡ 0) × (sink_old ≡ 0) × (sink_new ≡ 0)
CountsPrintFailures source_old source_new sink_old sink_new (Err (stop.Read fault message)) =
    CountsFault source_old source_new fault × (sink_new ≡ sink_old)
CountsPrintFailures source_old source_new sink_old sink_new (Err (stop.Text fault)) =
    (source_old ≡ 0) × (source_new ≡ 0) × (sink_new ≡ sink_old)
CountsPrintFailures source_old source_new sink_old sink_new (Err (stop.Write fault)) =
    (source_old ≡ 0) × (fault ≢ w.Write → source_new ≡ 0) × CountsSinkFault sink_old sink_new fault
CountsPrintFailures source_old source_new sink_old sink_new (Err (stop.Held message)) =
    (source_new ≡ source_old) × (sink_new ≡ sink_old)
CountsPrintFailures source_old source_new sink_old sink_new (Err (stop.OtherSchema path)) =
    (source_old ≡ 0) × (source_new ≡ 0) × (sink_new ≡ sink_old)

-- what a result states about a stream that is printed. At Ok the whole table was printed, and the
-- number counts its messages; or its rows up to the limit were. If printing stopped, a beginning of
-- the text was printed. At the maximum of held bytes reading broke off as where a source fails. At
-- another schema than the one that is expected, the schema alone was read
abbrev pub Prints : PrintOptions → Limits → Option (List ℕ) → Option (List ℕ) → Option (List ℕ)
    → Option (List ℕ) → Result (Option ℕ) PrintStop → Type 0
Prints options limits old new written_old written_new (Ok (Some messages)) =
    (p : PrintsTable options limits old new written_old written_new)
    × HasMessages limits old new p.table p.end messages
Prints options limits old new written_old written_new (Ok None) =
    PrintsFirst options limits old new written_old written_new
Prints options limits old new written_old written_new (Err (stop.Read fault message)) =
    EndsPrinting options limits old new written_old written_new fault message
Prints options limits old new written_old written_new (Err (stop.Text fault)) =
    StopsPrinting options limits old new written_old written_new fault
Prints options limits old new written_old written_new (Err (stop.Write fault)) =
    (write_fault_status fault ≢ 1) × PrintsSome options limits old new written_old written_new
Prints options limits old new written_old written_new (Err (stop.Held message)) =
    EndsPrinting options limits old new written_old written_new Read message
Prints options limits old new written_old written_new (Err (stop.OtherSchema path)) =
    ReadsSchemaAlone limits old new written_old written_new

-- the line of a schema: its JSON text and a line feed
abbrev pub schema_line : Schema → List ℕ
schema_line s = schema_text s ++ 10 ∷ []

-- what a result states about the schema of a stream that is printed. At Ok exactly the message of
-- the schema was taken, and its line was printed; at `Read` and at the maximum of held bytes no
-- schema was read, and nothing was printed; at `Write` a beginning of the line was printed; at
-- another schema than the one that is expected nothing was printed
abbrev pub PrintsSchema : Limits → Option (List ℕ) → Option (List ℕ) → Option (List ℕ)
    → Option (List ℕ) → Result ⊤ PrintStop → Type 0
PrintsSchema limits old new written_old written_new (Ok done) =
    (x : List ℕ) × (s : Schema) × Consumes old new x × OpensStream limits s x
    × Appends written_old written_new (schema_line s)
PrintsSchema limits old new written_old written_new (Err (stop.Read fault message)) =
    (x : List ℕ) × Consumes old new x × Reads limits None x new [] (Err fault) × (message ≡ 0)
    × Keeps written_old written_new
PrintsSchema limits old new written_old written_new (Err (stop.Text fault)) = ⊥
PrintsSchema limits old new written_old written_new (Err (stop.Write fault)) =
    (write_fault_status fault ≢ 1) × ((x : List ℕ) × (s : Schema) × (behind : List ℕ)
    × Consumes old new x × OpensStream limits s x
    × AppendsText written_old [] written_new behind (schema_line s))
PrintsSchema limits old new written_old written_new (Err (stop.Held message)) =
    (x : List ℕ) × Consumes old new x × Reads limits None x new [] (Err Read) × (message ≡ 0)
    × Keeps written_old written_new
PrintsSchema limits old new written_old written_new (Err (stop.OtherSchema path)) =
    ReadsSchemaAlone limits old new written_old written_new

-- the result if the source begins with the message of this schema: its line was printed, or the
-- source or the sink failed, or memory ran out, or there is a maximum of held bytes, or another
-- schema is expected, as `AnswersExpected` states
abbrev pub AnswersSchema : Option ℕ → Schema → Option (List ℕ) → Option (List ℕ)
    → Result ⊤ PrintStop → Type 0
AnswersSchema most s written_old written_new (Ok done) =
    Appends written_old written_new (schema_line s)
AnswersSchema most s written_old written_new (Err (stop.Read fault message)) = IsOutside fault
AnswersSchema most s written_old written_new (Err (stop.Text fault)) = ⊥
AnswersSchema most s written_old written_new (Err (stop.Write fault)) = write_fault_status fault ≢ 1
AnswersSchema most s written_old written_new (Err (stop.Held message)) = most ≢ None
AnswersSchema most s written_old written_new (Err (stop.OtherSchema path)) = ⊤

-- the columns of a table cannot be printed in the form, or some row up to the limit cannot, which
-- is the first one of its batch
abbrev pub HasUnprintableRow : PrintOptions → Table → TextFault → Type 0
HasUnprintableRow options t fault = (form_fault options.form t.schema.fields ≡ Some fault)
    ⊎ ((b : BatchRows) × ((count : ℕ) × (Contains (within options.limit t.batches) b
    × RefusesFirstRow options.form t.schema.fields b.rows count fault)))

-- the whole text of a table and its end, of this many bytes, was printed; if its rows reach the
-- limit, the text of the rows up to it
abbrev pub PrintsText : PrintOptions → Table → End → ℕ → Option (List ℕ) → Option (List ℕ) → Type 0
PrintsText options t end bytes written_old written_new =
    (WantsMoreRows options.limit (row_count t.batches)
    × Appends written_old written_new (stream_text options.form t.schema t.batches
    ++ tail_text options.form end (count_up 0 bytes) t.batches))
    ⊎ (HasReached options.limit (row_count t.batches)
    × Appends written_old written_new
    (stream_text options.form t.schema (within options.limit t.batches)))

-- the result if the source contains a table and its end, of this many bytes, and does not fail. The
-- text was printed, or the fault is in the table, or the sink failed or memory ran out, or there is
-- a maximum of held bytes, or another schema is expected, as `AnswersExpected` states
abbrev pub AnswersPrintedTable : PrintOptions → Table → End → ℕ → Option (List ℕ) → Option (List ℕ)
    → Result (Option ℕ) PrintStop → Type 0
AnswersPrintedTable options t end bytes written_old written_new (Ok messages) =
    PrintsText options t end bytes written_old written_new
AnswersPrintedTable options t end bytes written_old written_new (Err (stop.Read fault message)) =
    fault ≡ OutOfMemory
AnswersPrintedTable options t end bytes written_old written_new (Err (stop.Text fault)) =
    HasUnprintableRow options t fault
AnswersPrintedTable options t end bytes written_old written_new (Err (stop.Write fault)) =
    write_fault_status fault ≢ 1
AnswersPrintedTable options t end bytes written_old written_new (Err (stop.Held message)) =
    options.max_held ≢ None
AnswersPrintedTable options t end bytes written_old written_new (Err (stop.OtherSchema path)) = ⊤

-- x is the messages of a table, whose rows reach the limit in its last batch
pub record ReachesLimit (options : PrintOptions) (limits : Limits) (x : List ℕ)
    (t : Table) : Type 0 where
  pub state : State
  pub run : Run limits None x (events_of t) state
  pub reached : HasReached options.limit (row_count t.batches)
  pub wanted : AreWanted options.limit t.batches

-- the result if the source begins with the messages x of a table whose rows reach the limit in its
-- last batch, and does not fail. The text of the rows up to the limit was printed, and no byte
-- after x was taken; or the fault is in these rows, or the sink failed or memory ran out, or there
-- is a maximum of held bytes, or another schema is expected, as `AnswersExpected` states
abbrev pub AnswersFirst : PrintOptions → Table → List ℕ → Option (List ℕ) → Option (List ℕ)
    → Option (List ℕ) → Option (List ℕ) → Result (Option ℕ) PrintStop → Type 0
AnswersFirst options t x old new written_old written_new (Ok messages) =
    ((taken rest : List ℕ) × (x ≡ taken ++ rest) × Consumes old new taken)
    × Appends written_old written_new
    (stream_text options.form t.schema (within options.limit t.batches))
AnswersFirst options t x old new written_old written_new (Err (stop.Read fault message)) =
    fault ≡ OutOfMemory
AnswersFirst options t x old new written_old written_new (Err (stop.Text fault)) =
    HasUnprintableRow options t fault
AnswersFirst options t x old new written_old written_new (Err (stop.Write fault)) =
    write_fault_status fault ≢ 1
AnswersFirst options t x old new written_old written_new (Err (stop.Held message)) =
    options.max_held ≢ None
AnswersFirst options t x old new written_old written_new (Err (stop.OtherSchema path)) = ⊤

-- ---- the steps in between

-- a tally counts these batches and their rows; a count stops at 2^64 - 1
abbrev pub IsTally : PrintCounts → List BatchRows → Type 0
IsTally tally batches = (tally.batches ≡ count_up 0 (length batches))
    × (tally.rows ≡ count_up 0 (row_count batches))

-- the text at the end, for an outcome of printing rows and this many bytes; none if the limit was
-- reached, reading broke off, a row was refused or more would be held
abbrev pub outcome_tail : Form → Outcome → ℕ → List ℕ
outcome_tail form (o.Whole end tally) bytes = tail_of form end bytes tally.batches tally.rows
outcome_tail form o.Limited bytes = []
outcome_tail form (o.Broken fault) bytes = []
outcome_tail form (o.Refused fault) bytes = []
outcome_tail form o.Held bytes = []

-- the outcome is that more bytes would be held than the maximum
abbrev pub EndsHeld : Result Outcome PrintFault → Type 0
EndsHeld (Ok o.Held) = ⊤
EndsHeld r = ⊥

-- the stream was read to its end
abbrev pub IsReadToEnd : Outcome → Type 0
IsReadToEnd (o.Whole end tally) = ⊤
IsReadToEnd o.Limited = ⊥
IsReadToEnd (o.Broken fault) = ⊥
IsReadToEnd (o.Refused fault) = ⊥
IsReadToEnd o.Held = ⊥

module _ (options : PrintOptions) (old new : Reader) where
  -- the batches that were read after the schema, how reading ended, and that a row more is wanted
  pub record BatchesBelow (answer : Result End Fault) : Type 0 where
    pub x : List ℕ
    pub batches : List BatchRows
    pub bytes : Consumes old.remaining new.remaining x
    pub reads :
        Reads old.limits (Some (in_force_of old)) x new.remaining (map batch batches) answer
    pub counted :
        (k : ℕ) → old.taken ≡ count_up 0 k → new.taken ≡ count_up 0 (k + length x)
    pub numbered : (k : ℕ) → old.messages ≡ count_up 0 k → new.messages ≡ count_up 0 (k
        + messages_in reads.run)
    pub below : WantsMoreRows options.limit (row_count batches)
    pub have : HaveAllLines options.form old.schema.fields batches

  -- batches that were read after the schema, each because it was wanted, up to this state
  pub record BatchesWanted (state : State) : Type 0 where
    pub x : List ℕ
    pub batches : List BatchRows
    pub bytes : Consumes old.remaining new.remaining x
    pub run : Run old.limits (Some (in_force_of old)) x (map batch batches) state
    pub shortest : AreShortest old.limits (Some (in_force_of old)) x (map batch batches)
    pub wanted : AreWanted options.limit batches
    pub have : HaveAllLines options.form old.schema.fields (within options.limit batches)

  -- the batches that were read after the schema, and a row of the last of them, below the limit,
  -- that cannot be printed
  pub record BatchesToRow (fault : TextFault) : Type 0 where
    pub x : List ℕ
    pub batches : List BatchRows
    pub last : BatchRows
    pub count : ℕ
    pub bytes : Consumes old.remaining new.remaining x
    pub state : State
    pub run : Run old.limits (Some (in_force_of old)) x (map batch (batches ++ last ∷ [])) state
    pub below : WantsMoreRows options.limit (row_count batches + count)
    pub have : HaveAllLines options.form old.schema.fields batches
    pub refuses : RefusesFirstRow options.form old.schema.fields last.rows count fault

  -- batches that were read after the schema, what was taken behind their messages, and the text
  -- that belongs at the end
  pub record BatchesInPart : Type 0 where
    pub x : List ℕ
    pub batches : List BatchRows
    pub bytes : Consumes old.remaining new.remaining x
    pub rest : List ℕ
    pub whole : List ℕ
    pub joined : x ≡ whole ++ rest
    pub state : State
    pub run : Run old.limits (Some (in_force_of old)) whole (map batch batches) state
    pub tail : List ℕ
    pub inside : IsWithinRowLimit options.limit batches rest tail
    pub ends : IsTail options.form batches tail

module _ (options : PrintOptions) (front : List ℕ) (old new : Reader) (before : Output) where
  abbrev line : List Value → List ℕ
  line = line_of options.form old.schema.fields

  -- the rows of all batches were put after `front`; nothing of them is kept
  pub record PrintsRows (after : Output) (answer : Result End Fault) : Type 0 where
    pub read : BatchesBelow options old new answer
    pub open read use *
    pub puts : Puts before after (front ++ batch_lines (batch_heading options.form) line batches)
    pub sent : after.kept ≡ []

  -- the rows of the batches reach the limit, and those up to it were put after `front`; nothing of
  -- them is kept
  pub record PrintsLimited (after : Output) : Type 0 where
    pub state : State
    pub read : BatchesWanted options old new state
    pub open read use *
    pub reached : HasReached options.limit (row_count batches)
    pub puts : Puts before after
        (front ++ batch_lines (batch_heading options.form) line (within options.limit batches))
    pub sent : after.kept ≡ []

  -- all text before the row that cannot be printed was put, and at most that of the last batch is
  -- kept
  pub record StopsAtRow (after : Output) (fault : TextFault) : Type 0 where
    pub read : BatchesToRow options old new fault
    pub open read use *
    pub puts : Puts before after
        ((front ++ batch_lines (batch_heading options.form) line batches)
        ++ (batch_heading options.form last.pairs ++ lines line (take count last.rows)))
    pub few : length after.kept ≤ length
        (batch_heading options.form last.pairs ++ lines line (take count last.rows))

  -- the output failed while `front`, the text of the batches or the text at the end was put, and
  -- only the last part of it is missing
  pub record PrintsPart (written : Option (List ℕ)) (failures : ℕ)
      (fault : PrintFault) : Type 0 where
    pub read : BatchesInPart options old new
    pub open read use *
    pub puts :
        PutFails before written failures
        ((front ++ batch_lines (batch_heading options.form) line (within options.limit batches))
        ++ tail)
        fault
    pub few : length puts.behind ≤ length
        (last_lines front (batch_heading options.form) line (within options.limit batches) ++ tail)
    pub last : AreLast old.limits state rest new.remaining puts.behind
    pub works : fault ≢ p.Write → old.failures ≡ 0 → new.failures ≡ 0

  -- all batches were read after the schema; `front`, all their rows and the text at the end were
  -- put
  pub record PrintsWhole (after : Output) (end : End) : Type 0 where
    pub middle : Output
    pub rows : PrintsRows middle (Ok end)
    pub tail : Puts middle after (tail_text options.form end new.taken rows.batches)

-- the columns cannot be printed in the form; nothing was taken and nothing was printed
pub record Unfit (form : Form) (old new : Reader) (before after : Output)
    (fault : TextFault) : Type 0 where
  pub unfit : form_fault form old.schema.fields ≡ Some fault
  pub same : new ≡ old
  pub silent : after ≡ before

-- what a result states about the rows that are printed after `front`
abbrev pub PrintsBatches : PrintOptions → List ℕ → Reader → Reader → Output → Output
    → Result Outcome PrintFault → Type 0
PrintsBatches options front old new before after (Ok (o.Whole end tally)) =
    ((rows : PrintsRows options front old new before after (Ok end))
    × IsTally tally rows.batches) × (IsTrue options.require_mark → end ≡ Mark)
    × (old.failures ≡ 0 → new.failures ≡ 0)
PrintsBatches options front old new before after (Ok o.Limited) =
    PrintsLimited options front old new before after × (old.failures ≡ 0 → new.failures ≡ 0)
PrintsBatches options front old new before after (Ok (o.Broken fault)) =
    (answer : Result End Fault) × PrintsRows options front old new before after answer
    × (as_required options.require_mark answer ≡ Err fault)
    × CountsFault old.failures new.failures fault
PrintsBatches options front old new before after (Ok (o.Refused fault)) =
    StopsAtRow options front old new before after fault
    × (old.failures ≡ 0 → new.failures ≡ 0)
PrintsBatches options front old new before after (Ok o.Held) =
    (answer : Result End Fault) × PrintsRows options front old new before after answer
    × (as_required options.require_mark answer ≡ Err Read) × (new.failures ≡ old.failures)
PrintsBatches options front old new before after (Err fault) =
    PrintsPart options front old new before after.written after.failures fault

-- what a result states about the rows and the text at the end that are printed after `front`
abbrev pub PrintsAll : PrintOptions → List ℕ → Reader → Reader → Output → Output
    → Result Outcome PrintFault → Type 0
PrintsAll options front old new before after (Ok (o.Whole end tally)) =
    PrintsWhole options front old new before after end
    × (IsTrue options.require_mark → end ≡ Mark) × (old.failures ≡ 0 → new.failures ≡ 0)
PrintsAll options front old new before after answer =
    PrintsBatches options front old new before after answer

-- why rows were not printed, as a refusal of writing
abbrev pub write_fault : PrintFault → WriteFault
write_fault p.Write = w.Write
write_fault p.OutOfMemory = w.OutOfMemory

-- why a stream is not printed whose schema may be another than the one that is expected
abbrev pub RefusesOther : Option Schema → Schema → PrintStop → Type 0
RefusesOther expected s (stop.OtherSchema path) = IsOther expected s path.items
RefusesOther expected s (stop.Write fault) = fault ≡ w.OutOfMemory
RefusesOther expected s why = ⊥

-- what a result states about a stream whose schema was read
abbrev pub PrintsStream : PrintOptions → Reader → Reader → Output → Output
    → Result (Option ℕ) PrintStop → Type 0
PrintsStream options old new before after (Ok (Some messages)) =
    (form_fault options.form old.schema.fields ≡ None) × (messages ≡ new.messages)
    × ((end : End) × PrintsWhole options (front_text options.form old.schema) old new before after
    end × (IsTrue options.require_mark → end ≡ Mark))
PrintsStream options old new before after (Ok None) =
    (form_fault options.form old.schema.fields ≡ None)
    × PrintsLimited options (front_text options.form old.schema) old new before after
PrintsStream options old new before after (Err (stop.Read fault message)) =
    (answer : Result End Fault)
    × PrintsRows options (front_text options.form old.schema) old new before after answer
    × (as_required options.require_mark answer ≡ Err fault)
    × CountsFault old.failures new.failures fault × (message ≡ new.messages)
PrintsStream options old new before after (Err (stop.Text fault)) =
    Unfit options.form old new before after fault
    ⊎ StopsAtRow options (front_text options.form old.schema) old new before after fault
PrintsStream options old new before after (Err (stop.Write fault)) =
    (why : PrintFault) × (fault ≡ write_fault why)
    × PrintsPart options (front_text options.form old.schema) old new before after.written
    after.failures why
PrintsStream options old new before after (Err (stop.Held message)) =
    (answer : Result End Fault)
    × PrintsRows options (front_text options.form old.schema) old new before after answer
    × (as_required options.require_mark answer ≡ Err Read)
    × (new.failures ≡ old.failures) × (message ≡ new.messages)
PrintsStream options old new before after (Err (stop.OtherSchema path)) =
    (new ≡ old) × (after ≡ before)

-- the result of printing a batch: its head and all its rows were put, or those before the first one
-- that cannot be printed; or the output failed
abbrev pub PutsRows : Form → List Field → List ℕ → List (List Value) → Output → Option (List ℕ)
    → ℕ → List ℕ → Result (Option TextFault) PrintFault → Type 0
PutsRows form fields head rows old written failures kept (Ok None) = HaveLines form fields rows
    × Puts old (output written failures kept) (head ++ lines (line_of form fields) rows)
PutsRows form fields head rows old written failures kept (Ok (Some fault)) =
    (count : ℕ) × RefusesFirstRow form fields rows count fault
    × Puts old (output written failures kept)
    (head ++ lines (line_of form fields) (take count rows))
PutsRows form fields head rows old written failures kept (Err fault) =
    PutFails old written failures (head ++ lines (line_of form fields) rows) fault
