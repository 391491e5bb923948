-- The number and the line of each error of a writer.
use Rattle.std.specs.Prelude.{◌+◌, ℕ, List, codes}
use Rattle.ipc_model.specs.Numbering.{fault_number, write_fault_number}
use Rattle.ipc_model.specs.Texts.{fault_text, write_fault_text}
use Rattle.ipc_stream_session.specs.declared.write_error.WriteError.{WriteError}
use Rattle.ipc_stream_session.specs.declared.write_error.WriteError.TheVariants as error

-- the number after the letter F, 100 more than that after the letter W, and 200 more than that
-- after the letter X
abbrev pub error_number : WriteError → ℕ
error_number error.Misuse = 65
error_number error.NotUtf8 = 66
error_number error.BadSchemaJson = 206
error_number (error.Invalid fault) = fault_number fault
error_number (error.Refused fault) = 100 + write_fault_number fault

-- the line of a refusal, as the program prints it; the other errors have words of their own
abbrev pub error_line : WriteError → List ℕ
error_line error.Misuse = codes "call out of order"
error_line error.NotUtf8 = codes "text is not UTF-8"
error_line error.BadSchemaJson = codes "X6 BadSchemaJson"
error_line (error.Invalid fault) = fault_text fault
error_line (error.Refused fault) = write_fault_text fault
