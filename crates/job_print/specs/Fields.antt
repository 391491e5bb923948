-- Values as fields of CSV (RFC 4180), written after a text.
use Rattle.std.specs.Prelude.{◌≡◌, ◌≢◌, ℕ, List, ◌++◌, Option, Result, Ok, Err}
use Rattle.ipc_text_csv.specs.RowCsv.{Appended, RefusesValue}
use Rattle.ipc_text_temporal.specs.declared.fault.TextFault.{TextFault}
use Rattle.ipc_text_temporal.specs.declared.fault.TextFault.TheVariants.{OutOfMemory}

-- the text of a value was appended as a field; or it has none and nothing was appended, or memory
-- ran out
abbrev pub AddsField : {T : Type 0} → ℕ → ℕ → Option (List ℕ) → List ℕ → List ℕ
    → Result T TextFault → Type 0
AddsField delimiter column text before after (Ok _) = Appended delimiter before text after
AddsField delimiter column text before after (Err fault) =
    RefusesValue column text fault × (fault ≢ OutOfMemory → after ≡ before)

-- the record of a row, which there is, was appended
abbrev pub AddsRecord : Result (List ℕ) TextFault → List ℕ → List ℕ → Type 0
AddsRecord wanted before after =
    (text : List ℕ) × (wanted ≡ Ok text) × (after ≡ before ++ text)
