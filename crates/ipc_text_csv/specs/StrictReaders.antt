-- Where a reader of the strict form is.
use Rattle.std.specs.Prelude.{ℕ, List, Option, take, drop}
use Rattle.std.specs.Io.KnownBytes.{prepend_known}
use Rattle.csv.specs.Reading.{default_config}
use Rattle.csv.specs.declared.parser.Action.{Action as CsvAction}
use Rattle.csv.specs.declared.parser.Action.TheVariants as act
use Rattle.csv.specs.declared.parser.Config.{Config}
use Rattle.csv.specs.declared.parser.State.{State}
use Rattle.csv.specs.declared.parser.State.TheVariants as st
use Rattle.ipc_text_csv.specs.declared.strict_reader.Action.{Action}
use Rattle.ipc_text_csv.specs.declared.strict_reader.Action.TheVariants as action
use Rattle.ipc_text_csv.specs.declared.strict_reader.Bytes.{Bytes}
use Rattle.ipc_text_csv.specs.declared.strict_reader.Place.{Place}
use Rattle.ipc_text_csv.specs.declared.strict_reader.Place.TheVariants as place

-- the crate `csv` reads by default, but with this delimiter
abbrev pub setting : ℕ → Config
setting delimiter = record default_config { delimiter = delimiter }

-- the state of the crate `csv` at a place
abbrev pub state_of : Place → State
state_of place.StartRecord = st.StartRecord
state_of place.StartField = st.StartField
state_of place.InField = st.InField
state_of place.InQuoted = st.InQuoted
state_of place.AfterQuote = st.AfterQuote
state_of place.AfterCr = st.AfterCr

-- the crate's action
abbrev pub action_of : Action → CsvAction
action_of action.Skip = act.Skip
action_of action.Copy = act.Copy
action_of action.EndField = act.EndField
action_of action.EndRecord = act.EndRecord

-- the bytes that are left: those in the buffer, and then those of the input, if they are known
abbrev pub left_of : {R : Type 0} → (R → Option (List ℕ)) → Bytes R → Option (List ℕ)
left_of remaining b = prepend_known (drop b.at (take b.filled b.buffer)) (remaining b.input)
