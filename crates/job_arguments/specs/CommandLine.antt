-- The command line of the program, in the words of the crate `clap`: its subcommands and their
-- options.
use Rattle.std.specs.Prelude.{ℕ, ◌^◌, ◌-◌, [], ◌∷◌, Some, codes, true}
use Rattle.ipc_model.specs.MaxLimits.{max_body, max_depth, max_fields, max_metadata, max_pairs}
use Rattle.ipc_model.specs.MaxLimits.{max_slots, max_text}
use Rattle.clap.specs.Words.{App, Rule, Text, new_app, new_rule, with_rule, with_subcommand}
use Rattle.clap.specs.declared.builder.action.ArgAction.TheVariants.{Set, SetTrue}
use Rattle.clap.specs.declared.builder.value_parser.ValueParser.TheVariants.{Unsigned}

-- an option with one value, `--name VALUE`
abbrev pub option : Text → Rule
option name = record (new_rule name) { long = Some name; action = Some Set; value_names = 1 }

-- an option whose value is a number in this range, with its default as text
abbrev pub number : Text → ℕ → ℕ → Text → Rule
number name least greatest usual = record (option name) {
  defaults = usual ∷ [];
  parser = Some (Unsigned least greatest);
}

-- an option with a text, and the one that it has if it is not given
abbrev pub text : Text → Text → Rule
text name usual = record (option name) { defaults = usual ∷ [] }

-- an option without a value
abbrev pub flag : Text → Rule
flag name = record (new_rule name) { long = Some name; action = Some SetTrue }

-- an option that must be given
abbrev pub needed : Text → Rule
needed name = record (option name) { required = true }

-- an option whose value is a number in this range, without a default
abbrev pub count : Text → ℕ → ℕ → Rule
count name least greatest = record (option name) { parser = Some (Unsigned least greatest) }

-- the option to explain a refusal
abbrev pub explain : Rule
explain = flag (codes "explain")

-- the option with the name that precedes each line of messages
abbrev pub label : Rule
label = option (codes "label")

-- a subcommand with the options for what is printed to standard error
abbrev pub with_messages : App → App
with_messages a = with_rule (with_rule (with_rule a explain) label) (flag (codes "summary"))

-- a subcommand with the options for the limits of a message
abbrev pub with_message_limits : App → App
with_message_limits a = with_rule (with_rule (with_rule a
    (number (codes "max-metadata") 0 max_metadata (codes "16777216")))
    (number (codes "max-body") 0 max_body (codes "1099511627776")))
    (number (codes "max-rows") 0 max_slots (codes "2147483647"))

-- a subcommand with the options for the limits of a schema
abbrev pub with_schema_limits : App → App
with_schema_limits a = with_rule (with_rule (with_rule (with_rule a
    (number (codes "max-fields") 0 max_fields (codes "65536")))
    (number (codes "max-depth") 0 max_depth (codes "64")))
    (number (codes "max-text") 0 max_text (codes "67108864")))
    (number (codes "max-pairs") 0 max_pairs (codes "1048576"))

-- a subcommand with the options for the end of a stream, and for what is reported of it
abbrev pub with_reports : App → App
with_reports a = with_rule (with_messages (with_rule (with_rule a (flag (codes "require-mark")))
    (flag (codes "require-eof")))) (flag (codes "progress"))

-- the option with the maximum number of bytes that are held of a stream
abbrev pub max_held : Rule
max_held = count (codes "max-held") 0 (2 ^ 64 - 1)

-- the option with the path of the file with the schema that a stream must have
abbrev pub expect : Rule
expect = option (codes "expect")

-- a subcommand with the options of those that read a stream: its limits, its schema, its end, and
-- what is reported of it
abbrev pub with_stream : App → App
with_stream a = with_reports
    (with_rule (with_schema_limits (with_rule (with_message_limits a) max_held)) expect)

-- the subcommand that validates a stream
abbrev pub check : App
check = with_stream (with_rule (new_app (codes "check")) (flag (codes "schema")))

-- the option with the number of rows that are printed
abbrev pub limit : Rule
limit = count (codes "limit") 0 (2 ^ 64 - 1)

-- the subcommand that prints rows as JSON
abbrev pub show : App
show = with_stream (with_rule (with_rule (with_rule (new_app (codes "show"))
    (flag (codes "objects"))) (flag (codes "pairs"))) limit)

-- a subcommand with the options for the dialect of CSV
abbrev pub with_dialect : App → App
with_dialect a = with_rule (with_rule a (text (codes "delimiter") (codes ",")))
    (text (codes "null") (codes "\\N"))

-- the subcommand that prints records of CSV
abbrev pub to_csv : App
to_csv = with_stream (with_rule (with_dialect (new_app (codes "to-csv"))) limit)

-- the option with the number of rows of a batch
abbrev pub batch : Rule
batch = number (codes "batch") 1 max_slots (codes "65536")

-- the option with the maximum number of bytes of the body of a batch
abbrev pub batch_bytes : Rule
batch_bytes = count (codes "batch-bytes") 0 max_body

-- the subcommand that makes a stream of records of CSV
abbrev pub from_csv : App
from_csv = with_messages (with_rule (with_dialect (with_rule (with_rule (with_rule
    (new_app (codes "from-csv")) (needed (codes "schema"))) batch) batch_bytes))
    (flag (codes "strict")))

-- a subcommand with the options for the limits of what is written
abbrev pub with_output_limits : App → App
with_output_limits a = with_rule (with_rule (with_rule (with_rule a
    (count (codes "max-output-body") 0 max_body))
    (count (codes "max-batches") 0 (2 ^ 64 - 1)))
    (count (codes "max-total-rows") 0 (2 ^ 64 - 1)))
    (count (codes "max-total-bytes") 0 (2 ^ 64 - 1))

-- the subcommand that writes a stream in canonical layout
abbrev pub rewrite : App
rewrite = with_stream (with_output_limits (new_app (codes "rewrite")))

-- the program without its subcommands; it has a version, and needs a subcommand
abbrev pub program : App
program = record {
  top = record (new_app (codes "arrowstream")).top {
    has_version = true;
    subcommand_required = true;
  };
  subs = [];
}

-- the program
abbrev pub arrowstream : App
arrowstream = with_subcommand (with_subcommand (with_subcommand (with_subcommand
    (with_subcommand program check.top) show.top) to_csv.top) from_csv.top) rewrite.top
