-- What a command line asks for.
use Rattle.std.specs.Prelude.{◌≡◌, ◌≢◌, ◌⊎◌, ◌↔◌, ◌≤◌, ℕ, ◌^◌, ◌-◌, Bool, IsTrue, List, [], ◌∷◌}
use Rattle.std.specs.Prelude.{Option, None, Some, ⊤, codes, false, true, string_bytes, ◌++◌, ◌==◌}
use Rattle.std.specs.Prelude.{IsFalse, String, chars, slice_get}
use Rattle.std.specs.Char.{is_control}
use Rattle.std.specs.declared.alloc.Global.{Global}
use Rattle.std.specs.List.{list_any, starts_with}
use Rattle.std.specs.Str.Parse.{IsNumeral, digits_value, without_leading_plus}
use Rattle.clap.specs.Words.{App, IsAmong, Row, Text, app_of, fault_of, first_of, one_of}
use Rattle.clap.specs.Words.{subcommand_of}
use Rattle.clap.specs.declared.builder.command.Command.{Command}
use Rattle.clap.specs.declared.builder.command.Command.TheViews.{out-Command}
use Rattle.clap.specs.declared.error.kind.ErrorKind.{ErrorKind}
use Rattle.clap.specs.declared.error.kind.ErrorKind.TheVariants as kind
use Rattle.ipc_text_csv.specs.Dialects.{IsDialect}
use Rattle.ipc_model.specs.MaxLimits.{max_body, max_depth, max_fields, max_metadata, max_pairs}
use Rattle.ipc_model.specs.MaxLimits.{max_slots, max_text}
use Rattle.ipc_model.specs.declared.limits.Limits.{Limits}
use Rattle.job_arguments.specs.CommandLine.{arrowstream}
use Rattle.job_arguments.specs.declared.csv_dialect.CsvDialect.{CsvDialect}
use Rattle.job_arguments.specs.declared.arguments.Invocation.{Invocation}
use Rattle.job_arguments.specs.declared.arguments.Job.{Job}
use Rattle.job_arguments.specs.declared.arguments.Job.TheVariants as job
use Rattle.job_arguments.specs.declared.arguments.OutputLimits.{OutputLimits}
use Rattle.job_arguments.specs.declared.arguments.Usage.{Usage}
use Rattle.job_arguments.specs.declared.arguments.Usage.TheVariants as usage

-- the option has this number, which is in its range: the decimal number of its value in the words,
-- or of its default
pub record HasNumber (name : Text) (least greatest : ℕ) (rows : List Row) (n : ℕ) : Type 0 where
  pub text : Text
  pub text_is : one_of name rows ≡ Some text
  pub numeral : IsNumeral 10 (without_leading_plus text)
  pub value : n ≡ digits_value 10 (without_leading_plus text)
  pub least_is : least ≤ n
  pub greatest_is : n ≤ greatest

-- the option has no such number
abbrev pub LacksNumber : Text → ℕ → ℕ → List Row → Type 0
LacksNumber name least greatest rows = (n : ℕ) → HasNumber name least greatest rows n → ⊥

-- the option has this number, if the words have the option
abbrev pub HasCount : Text → ℕ → ℕ → List Row → Option ℕ → Type 0
HasCount name least greatest rows None = first_of name rows ≡ None
HasCount name least greatest rows (Some n) = HasNumber name least greatest rows n

-- the words have the option, but with no number in its range
abbrev pub LacksCount : Text → ℕ → ℕ → List Row → Type 0
LacksCount name least greatest rows =
    (first_of name rows ≢ None) × LacksNumber name least greatest rows

-- the option has this text, if the words have the option
abbrev pub HasText : Text → List Row → Option (String Global) → Type 0
HasText name rows None = first_of name rows ≡ None
HasText name rows (Some text) = first_of name rows ≡ Some (string_bytes text)

-- the flag is `true` exactly where the words have it
abbrev pub HasFlag : Text → List Row → Bool → Type 0
HasFlag name rows flag = IsTrue flag ↔ (one_of name rows ≡ Some (codes "true"))

-- a name that may precede lines: it is not empty, and has no control character
abbrev pub IsLabel : Text → Type 0
IsLabel name = (name ≢ []) × IsFalse (list_any is_control (chars name))

-- the options ask for this text before each line of messages: none, or a name with a colon and a
-- space
abbrev pub AskForLabel : List Row → String Global → Type 0
AskForLabel rows label = ((first_of (codes "label") rows ≡ None) × (string_bytes label ≡ []))
    ⊎ ((name : Text) × (first_of (codes "label") rows ≡ Some name) × IsLabel name
    × (string_bytes label ≡ name ++ codes ": "))

-- the name that precedes lines is not allowed
abbrev pub HasWrongLabel : List Row → Type 0
HasWrongLabel rows =
    (name : Text) × (first_of (codes "label") rows ≡ Some name) × ¬ IsLabel name

-- the options of a subcommand ask for these limits
pub record AskForLimits (rows : List Row) (limits : Limits) : Type 0 where
  pub metadata : HasNumber (codes "max-metadata") 0 max_metadata rows limits.metadata
  pub body : HasNumber (codes "max-body") 0 max_body rows limits.body
  pub slots : HasNumber (codes "max-rows") 0 max_slots rows limits.slots
  pub fields : HasNumber (codes "max-fields") 0 max_fields rows limits.fields
  pub depth : HasNumber (codes "max-depth") 0 max_depth rows limits.depth
  pub text : HasNumber (codes "max-text") 0 max_text rows limits.text
  pub pairs : HasNumber (codes "max-pairs") 0 max_pairs rows limits.pairs

-- one of the limits is no number from 0 to its greatest value
abbrev pub HasWrongLimit : List Row → Type 0
HasWrongLimit rows = LacksNumber (codes "max-metadata") 0 max_metadata rows
    ⊎ (LacksNumber (codes "max-body") 0 max_body rows
    ⊎ (LacksNumber (codes "max-rows") 0 max_slots rows
    ⊎ (LacksNumber (codes "max-fields") 0 max_fields rows
    ⊎ (LacksNumber (codes "max-depth") 0 max_depth rows
    ⊎ (LacksNumber (codes "max-text") 0 max_text rows
    ⊎ LacksNumber (codes "max-pairs") 0 max_pairs rows)))))

-- the options of a subcommand ask for these limits of what is written
pub record AskForOutput (rows : List Row) (limits : OutputLimits) : Type 0 where
  pub body : HasCount (codes "max-output-body") 0 max_body rows limits.body
  pub batches : HasCount (codes "max-batches") 0 (2 ^ 64 - 1) rows limits.batches
  pub total : HasCount (codes "max-total-rows") 0 (2 ^ 64 - 1) rows limits.rows
  pub bytes : HasCount (codes "max-total-bytes") 0 (2 ^ 64 - 1) rows limits.bytes

-- one of these limits is no number from 0 to its greatest value
abbrev pub HasWrongOutput : List Row → Type 0
HasWrongOutput rows = LacksCount (codes "max-output-body") 0 max_body rows
    ⊎ (LacksCount (codes "max-batches") 0 (2 ^ 64 - 1) rows
    ⊎ (LacksCount (codes "max-total-rows") 0 (2 ^ 64 - 1) rows
    ⊎ LacksCount (codes "max-total-bytes") 0 (2 ^ 64 - 1) rows))

-- the text of a delimiter is this one byte, or a backslash and a `t` for a tab
abbrev pub IsDelimiter : Text → ℕ → Type 0
IsDelimiter text byte = (text ≡ byte ∷ []) ⊎ ((text ≡ codes "\\t") × (byte ≡ 9))

-- the options ask for this dialect of CSV
pub record AskForDialect (rows : List Row) (dialect : CsvDialect) : Type 0 where
  pub text : Text
  pub given : first_of (codes "delimiter") rows ≡ Some text
  pub delimiter : IsDelimiter text dialect.delimiter
  pub null : first_of (codes "null") rows ≡ Some (string_bytes dialect.null)

-- the options ask for no dialect that is allowed
abbrev pub HasWrongDialect : List Row → Type 0
HasWrongDialect rows = (text null : Text) (delimiter : ℕ)
    → first_of (codes "delimiter") rows ≡ Some text → IsDelimiter text delimiter
    → first_of (codes "null") rows ≡ Some null → IsDialect delimiter null → ⊥

-- a number of rows that a batch may be asked to have
abbrev pub IsBatchSize : ℕ → Type 0
IsBatchSize size = (1 ≤ size) × (size ≤ max_slots)

-- the job's batch size, if it has one, is allowed
abbrev pub HasGoodSize : Job → Type 0
HasGoodSize (job.Schema limits) = ⊤
HasGoodSize (job.Check limits mark) = ⊤
HasGoodSize (job.Show limits objects pairs count mark) = ⊤
HasGoodSize (job.ToCsv limits dialect count mark) = ⊤
HasGoodSize (job.Rewrite limits output mark) = ⊤
HasGoodSize (job.FromCsv path size bytes dialect strict) = IsBatchSize size

-- the subcommand of this name, with what was found for its options, asks for this job
abbrev pub IsJobOf : Text → List Row → Job → Type 0
IsJobOf name rows (job.Schema limits) =
    (name ≡ codes "check") × AskForLimits rows limits × HasFlag (codes "schema") rows true
IsJobOf name rows (job.Check limits mark) =
    (name ≡ codes "check") × AskForLimits rows limits × HasFlag (codes "schema") rows false
    × HasFlag (codes "require-mark") rows mark
IsJobOf name rows (job.Show limits objects pairs count mark) =
    (name ≡ codes "show") × AskForLimits rows limits × HasFlag (codes "objects") rows objects
    × HasFlag (codes "pairs") rows pairs × HasCount (codes "limit") 0 (2 ^ 64 - 1) rows count
    × HasFlag (codes "require-mark") rows mark
IsJobOf name rows (job.ToCsv limits dialect count mark) =
    (name ≡ codes "to-csv") × AskForLimits rows limits × AskForDialect rows dialect
    × HasCount (codes "limit") 0 (2 ^ 64 - 1) rows count × HasFlag (codes "require-mark") rows mark
IsJobOf name rows (job.Rewrite limits output mark) =
    (name ≡ codes "rewrite") × AskForLimits rows limits × AskForOutput rows output
    × HasFlag (codes "require-mark") rows mark
IsJobOf name rows (job.FromCsv path size bytes dialect strict) = (name ≡ codes "from-csv")
    × (first_of (codes "schema") rows ≡ Some (string_bytes path))
    × HasNumber (codes "batch") 1 max_slots rows size
    × HasCount (codes "batch-bytes") 0 max_body rows bytes × AskForDialect rows dialect
    × HasFlag (codes "strict") rows strict

-- the name of the job's subcommand
abbrev pub subcommand_name : Job → Text
subcommand_name (job.Schema limits) = codes "check"
subcommand_name (job.Check limits mark) = codes "check"
subcommand_name (job.Show limits objects pairs count mark) = codes "show"
subcommand_name (job.ToCsv limits dialect count mark) = codes "to-csv"
subcommand_name (job.Rewrite limits output mark) = codes "rewrite"
subcommand_name (job.FromCsv path size bytes dialect strict) = codes "from-csv"

-- whether the job reads a stream
abbrev pub reads_stream : Job → Bool
reads_stream (job.FromCsv path size bytes dialect strict) = false
reads_stream _ = true

-- the subcommand of this name has options for limits
abbrev pub HasLimits : Text → Type 0
HasLimits name = (name ≡ codes "check")
    ⊎ ((name ≡ codes "show") ⊎ ((name ≡ codes "to-csv") ⊎ (name ≡ codes "rewrite")))

-- the subcommand of this name has an option for the number of rows that are printed
abbrev pub HasLimit : Text → Type 0
HasLimit name = (name ≡ codes "show") ⊎ (name ≡ codes "to-csv")

-- the subcommand of this name has options for the dialect of CSV
abbrev pub HasDialect : Text → Type 0
HasDialect name = (name ≡ codes "to-csv") ⊎ (name ≡ codes "from-csv")

-- no subcommand has this name
abbrev pub IsNoSubcommand : Text → Type 0
IsNoSubcommand name = (HasLimits name → ⊥) × (name ≢ codes "from-csv")

-- an option of the subcommand of this name has none of its values
pub data HasWrongValue (name : Text) (rows : List Row) : Type 0 where
  -- a limit is out of its range
  limit : HasLimits name → HasWrongLimit rows → HasWrongValue name rows
  -- the number of rows to print is no number of 64 bits
  count : HasLimit name → LacksCount (codes "limit") 0 (2 ^ 64 - 1) rows → HasWrongValue name rows
  -- the maximum of held bytes is no number of 64 bits
  held : LacksCount (codes "max-held") 0 (2 ^ 64 - 1) rows → HasWrongValue name rows
  -- the name that precedes lines is not allowed
  label : HasWrongLabel rows → HasWrongValue name rows
  -- a limit of what is written is out of its range
  output : name ≡ codes "rewrite" → HasWrongOutput rows → HasWrongValue name rows
  -- the dialect of CSV is not allowed
  dialect : HasDialect name → HasWrongDialect rows → HasWrongValue name rows
  -- `from-csv` has no path
  path : name ≡ codes "from-csv" → first_of (codes "schema") rows ≡ None → HasWrongValue name rows
  -- its batch size is no number from 1 to 2^31 - 1
  size : name ≡ codes "from-csv" → LacksNumber (codes "batch") 1 max_slots rows
      → HasWrongValue name rows
  -- its maximum of bytes of a batch is above its greatest value
  bytes : name ≡ codes "from-csv" → LacksCount (codes "batch-bytes") 0 max_body rows
      → HasWrongValue name rows
  -- there is no such subcommand
  other : IsNoSubcommand name → HasWrongValue name rows

-- the subcommand of this name, with what was found for its options, asks for this job, and has
-- these flags, this maximum of held bytes, this path of the schema that is expected and this label
abbrev pub IsInvocationOf : Text → List Row → Invocation → Type 0
IsInvocationOf name rows asked =
    IsJobOf name rows asked.job × HasFlag (codes "explain") rows asked.explain
    × HasFlag (codes "progress") rows asked.progress
    × HasFlag (codes "require-eof") rows asked.require_eof
    × HasCount (codes "max-held") 0 (2 ^ 64 - 1) rows asked.max_held
    × HasText (codes "expect") rows asked.expect
    × AskForLabel rows asked.label × HasFlag (codes "summary") rows asked.summary

-- the words ask for this: `clap` finds no fault in them, and they name a subcommand that asks for
-- it
pub record Asks (words : List Text) (asked : Invocation) : Type 0 where
  pub taken : fault_of arrowstream words ≡ []
  pub name : Text
  pub rows : List Row
  pub entered : subcommand_of arrowstream words ≡ Some (name, rows)
  pub is : IsInvocationOf name rows asked

-- `clap` finds no fault in the words, and the subcommand that they name has a value that is none of
-- its option's
pub record HaveWrongValue (words : List Text) : Type 0 where
  pub taken : fault_of arrowstream words ≡ []
  pub name : Text
  pub rows : List Row
  pub entered : subcommand_of arrowstream words ≡ Some (name, rows)
  pub wrong : HasWrongValue name rows

-- the subcommand that the second word names, or `check` if it names none
abbrev pub IsNamed : List Text → Text → Type 0
IsNamed words name =
    ((slice_get words 1 ≡ Some name) × (HasLimits name ⊎ (name ≡ codes "from-csv")))
    ⊎ ((name ≡ codes "check")
    × ((second : Text) → slice_get words 1 ≡ Some second → IsNoSubcommand second))

-- how the subcommand of this name reads a file
abbrev pub hint : Text → List ℕ
hint name =
    codes "\nInput is read from standard input: arrowstream " ++ name ++ codes " < FILE\n"

-- the message for a word that is no argument or subcommand says that the word looks like an option,
-- or ends with how a file is read
abbrev pub Hints : List Text → List ℕ → Type 0
Hints words text = IsTrue (starts_with ◌==◌ text (codes "error: unexpected argument '-"))
    ⊎ ((front : List ℕ) × (name : Text) × (text ≡ front ++ hint name) × IsNamed words name)

-- a word is no argument, or no subcommand
abbrev pub IsUnexpectedWord : ErrorKind → Type 0
IsUnexpectedWord fault = (fault ≡ kind.UnknownArgument) ⊎ (fault ≡ kind.InvalidSubcommand)

-- why words are no job. They ask for help or the version; or they have another fault, or a value
-- that is none of its option's; or memory ran out
abbrev pub AsksNoJob : List Text → Usage → Type 0
AsksNoJob words (usage.Help text) = IsAmong kind.DisplayHelp (fault_of arrowstream words)
    ⊎ IsAmong kind.DisplayVersion (fault_of arrowstream words)
AsksNoJob words (usage.Wrong text) =
    ((fault : ErrorKind) × IsAmong fault (fault_of arrowstream words)
    × (fault ≢ kind.DisplayHelp) × (fault ≢ kind.DisplayVersion)
    × (IsUnexpectedWord fault → Hints words (string_bytes text)))
    ⊎ HaveWrongValue words
AsksNoJob words usage.OutOfMemory = ⊤

-- ---- the steps in between

-- a command that `clap` sees as this one
abbrev pub IsCommand : App → Command → Type 0
IsCommand app c = (app_of c ≡ app) × ((out-Command c).has_globals ≡ false)

-- the usage that is answered to an error of this kind in the words
abbrev pub IsUsageOf : List Text → ErrorKind → Usage → Type 0
IsUsageOf words fault (usage.Help text) =
    (fault ≡ kind.DisplayHelp) ⊎ (fault ≡ kind.DisplayVersion)
IsUsageOf words fault (usage.Wrong text) = (fault ≢ kind.DisplayHelp)
    × (fault ≢ kind.DisplayVersion) × (fault ≢ kind.OutOfMemory)
    × (IsUnexpectedWord fault → Hints words (string_bytes text))
IsUsageOf words fault usage.OutOfMemory = ⊤

-- the usage for a word that is no argument or subcommand
abbrev pub IsHint : List Text → Usage → Type 0
IsHint words (usage.Help text) = ⊥
IsHint words (usage.Wrong text) = Hints words (string_bytes text)
IsHint words usage.OutOfMemory = ⊤

-- the usage of words that are wrong, unless memory ran out
abbrev pub IsWrong : Usage → Type 0
IsWrong (usage.Help text) = ⊥
IsWrong (usage.Wrong text) = ⊤
IsWrong usage.OutOfMemory = ⊤

-- the same, and the words are wrong for this cause
abbrev pub IsWrongFor : Type 0 → Usage → Type 0
IsWrongFor cause (usage.Help text) = ⊥
IsWrongFor cause (usage.Wrong text) = cause
IsWrongFor cause usage.OutOfMemory = ⊤

-- a subcommand was found with a value that is none of its option's, or none was found
abbrev pub IsWrongFound : Option (Text × List Row) → Type 0
IsWrongFound found = (found ≡ None)
    ⊎ ((name : Text) × (rows : List Row) × (found ≡ Some (name, rows)) × HasWrongValue name rows)

-- a subcommand was found that asks for this
abbrev pub IsFound : Option (Text × List Row) → Invocation → Type 0
IsFound found asked =
    (name : Text) × (rows : List Row) × (found ≡ Some (name, rows))
    × IsInvocationOf name rows asked
