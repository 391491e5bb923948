-- The text that is printed for a table that did not come back.
use Rattle.std.specs.Prelude.{ℕ, List, ◌++◌, codes}
use Rattle.ipc_model.specs.Texts.{fault_text, write_fault_text}
use Rattle.ipc_stream.specs.declared.round_trip.RoundTripFault.{RoundTripFault}
use Rattle.ipc_stream.specs.declared.round_trip.RoundTripFault.TheVariants.{Write, Read}

-- the text for a table that was not written or not read back
abbrev pub round_trip_text : RoundTripFault → List ℕ
round_trip_text (Write fault) = codes "not written: " ++ write_fault_text fault
round_trip_text (Read fault) = codes "not read: " ++ fault_text fault
