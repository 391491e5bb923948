-- The line that sums up a job.
use Rattle.std.specs.Prelude.{◌≡◌, ◌++◌, ◌∷◌, [], ℕ, List, Option, None, Some, Result, Ok, Err, ⊤}
use Rattle.std.specs.Prelude.{Bool, codes, false, if◌then◌else◌, true}
use Rattle.std.specs.Fmt.{decimal}
use Rattle.std.specs.Io.KnownBytes.{Appends}
use Rattle.job_arguments.specs.Arguments.{reads_stream}
use Rattle.job_arguments.specs.declared.arguments.Job.{Job}
use Rattle.job_command.specs.Lines.{stop_text}
use Rattle.job_command.specs.declared.stop.Stop.{Stop}
use Rattle.job_command.specs.declared.stop.Stop.TheVariants as stop

-- a number as JSON, or null
abbrev pub number_or_null : Option ℕ → List ℕ
number_or_null None = codes "null"
number_or_null (Some n) = decimal n

-- one more member of a JSON object
abbrev pub member : List ℕ → Option ℕ → List ℕ
member name value = codes ",\"" ++ name ++ codes "\":" ++ number_or_null value

-- the line of a job that stopped as a JSON string, which escapes none of its characters; or null if
-- the job is done
abbrev pub fault_json : Result ⊤ Stop → List ℕ
fault_json (Ok done) = codes "null"
fault_json (Err why) = codes "\"" ++ stop_text why ++ codes "\""

-- the number of the message that was refused, or with which more bytes would be held
abbrev pub message_of : Result ⊤ Stop → Option ℕ
message_of (Err (stop.Read fault message)) = Some message
message_of (Err (stop.Held message)) = Some message
message_of r = None

-- the summary of a job as one line of JSON, without its line feed: its subcommand, the exit status,
-- the line and the message of its refusal, the numbers of batches and rows, and those of bytes that
-- were read and written
abbrev pub summary_text : List ℕ → ℕ → Result ⊤ Stop → Option ℕ → Option ℕ → ℕ → ℕ → List ℕ
summary_text job status r batches rows bytes_in bytes_out =
    codes "{\"job\":\"" ++ job ++ codes "\"" ++ member (codes "status") (Some status)
    ++ codes ",\"fault\":" ++ fault_json r ++ member (codes "message") (message_of r)
    ++ member (codes "batches") batches ++ member (codes "rows") rows
    ++ member (codes "bytes_in") (Some bytes_in) ++ member (codes "bytes_out") (Some bytes_out)
    ++ codes "}"

-- a number of what a stream has; a job that reads no stream has none
abbrev pub stream_number : Job → ℕ → Option ℕ
stream_number job n = if reads_stream job then Some n else None

-- what is printed after the lines of a result to messages with this count of failures: the summary,
-- if it is asked for, with the label before it
abbrev pub PrintsSummary : Bool → List ℕ → Option (List ℕ) → Option (List ℕ) → ℕ → List ℕ → Type 0
PrintsSummary false label old new failures text = new ≡ old
PrintsSummary true label old new failures text =
    failures ≡ 0 → Appends old new (label ++ text ++ 10 ∷ [])
