-- The line that is printed for a job that stopped.
use Rattle.std.specs.Prelude.{◌≡◌, ◌++◌, ◌∷◌, [], ℕ, List, Option, Result, Ok, Err, ⊤}
use Rattle.std.specs.Prelude.{◌⊎◌, ◌==◌, Bool, IsTrue, codes, if◌then◌else◌}
use Rattle.std.specs.Fmt.{decimal}
use Rattle.std.specs.Io.KnownBytes.{Appends}
use Rattle.ipc_model.specs.Texts.{fault_text, steps_text, stop_line, write_fault_text}
use Rattle.ipc_model.specs.declared.fault.Fault.TheVariants as f
use Rattle.ipc_model.specs.declared.fault.WriteFault.{WriteFault}
use Rattle.ipc_model.specs.declared.fault.WriteFault.TheVariants as w
use Rattle.ipc_text_temporal.specs.FaultLines.{text_fault_line}
use Rattle.csv.specs.Records.{fields_of}
use Rattle.job_explain.specs.Explained.{Explains as ExplainsMessage, ExplainsUnwritten}
use Rattle.job_explain.specs.Records.{ExplainsRecord}
use Rattle.job_explain.specs.Schemas.{ExplainsSchema}
use Rattle.job_explain.specs.Writes.{ExplainsWrite}
use Rattle.job_explain.specs.declared.message_record.MessageRecord.{MessageRecord}
use Rattle.ipc_text_temporal.specs.declared.fault.TextFault.TheVariants as x
use Rattle.job_rewrite.specs.declared.options.Total.{Total}
use Rattle.job_rewrite.specs.declared.options.Total.TheVariants.{Batches, Bytes, Rows}
use Rattle.job_command.specs.declared.stop.Stop.{Stop}
use Rattle.job_command.specs.declared.stop.Stop.TheVariants as stop

-- the line of a refusal of the writer; if memory ran out, it has no number
abbrev pub write_line : WriteFault → List ℕ
write_line w.OutOfMemory = codes "out of memory"
write_line fault = write_fault_text fault

-- the line of a batch that would exceed a total: the total's option, and the batch's number
abbrev pub above_text : Total → ℕ → List ℕ
above_text Batches number = codes "output above --max-batches at batch " ++ decimal number
above_text Rows number = codes "output above --max-total-rows at batch " ++ decimal number
above_text Bytes number = codes "output above --max-total-bytes at batch " ++ decimal number

-- the line of a message with which more bytes would be held than the maximum
abbrev pub held_text : ℕ → List ℕ
held_text message = codes "held above --max-held at message " ++ decimal message

-- the line of a stream whose schema is another than the one that is expected: the path of the first
-- field that differs
abbrev pub other_schema_text : List ℕ → List ℕ
other_schema_text path = codes "other schema at path" ++ steps_text path

-- the line of a job that stopped, without its line feed
abbrev pub stop_text : Stop → List ℕ
stop_text (stop.Read fault message) = stop_line fault message
stop_text stop.Input = fault_text f.Read
stop_text stop.Schema = codes "cannot read schema"
stop_text (stop.Write fault) = write_line fault
stop_text (stop.Above total number) = above_text total number
stop_text stop.NoRoom = codes "output above --max-total-bytes at the schema"
stop_text (stop.Held message) = held_text message
stop_text (stop.OtherSchema path) = other_schema_text path.items
stop_text (stop.Rows fault s) = write_line fault
stop_text (stop.Text fault) = text_fault_line fault
stop_text (stop.SchemaText text) = text_fault_line x.BadSchemaJson
stop_text (stop.Record fault refused s) = text_fault_line fault

-- the lines that explain a job that stopped: those of the message of a stream, the rows, the record
-- of CSV or the schema's file that was refused, and else none
abbrev pub ExplainsStop : Stop → List ℕ → Type 0
ExplainsStop (stop.Read fault message) more =
    (kept : Option MessageRecord) × ExplainsMessage kept fault message more
ExplainsStop (stop.Write fault) more =
    (kept : Option MessageRecord) × ExplainsUnwritten kept fault more
ExplainsStop (stop.Rows fault s) more = ExplainsWrite s.fields fault more
ExplainsStop (stop.Record fault refused s) more =
    ExplainsRecord fault s.fields (fields_of refused) more
ExplainsStop (stop.SchemaText text) more = ExplainsSchema text.items more
ExplainsStop why more = more ≡ []

-- bytes with a label before each one that begins a line: one that follows a line feed. `before` is
-- the byte before the first
abbrev pub labelled_after : ℕ → List ℕ → List ℕ → List ℕ
labelled_after before label [] = []
labelled_after before label (x ∷ xs) =
    (if before == 10 then label else []) ++ x ∷ labelled_after x label xs

-- lines with a label before each
abbrev pub labelled : List ℕ → List ℕ → List ℕ
labelled label lines = labelled_after 10 label lines

-- what is printed of a result to messages with this count of failures: nothing if the job is done;
-- if it stopped and no call failed, exactly its line, and after it, if that is asked for and memory
-- does not run out, the lines that explain it. The label precedes each of these lines
abbrev pub PrintsStopLines : Bool → List ℕ → Option (List ℕ) → Option (List ℕ) → ℕ
    → Result ⊤ Stop → Type 0
PrintsStopLines explain label old new failures (Ok done) = new ≡ old
PrintsStopLines explain label old new failures (Err why) = failures ≡ 0 → (more : List ℕ)
    × ((more ≡ []) ⊎ (IsTrue explain × ExplainsStop why more))
    × Appends old new (label ++ stop_text why ++ 10 ∷ labelled label more)
