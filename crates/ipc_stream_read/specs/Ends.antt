-- How a stream may end for a caller that requires the end-of-stream mark.
use Rattle.std.specs.Prelude.{Bool, true, false, Result, Ok, Err}
use Rattle.ipc_model.specs.declared.fault.Fault.{Fault}
use Rattle.ipc_model.specs.declared.fault.Fault.TheVariants.{Truncated}
use Rattle.ipc_stream_read.specs.declared.end.End.{End}
use Rattle.ipc_stream_read.specs.declared.end.End.TheVariants.{Closed, Mark}

-- how reading ends for a caller: at the source's end, with F4 if the end mark is required
abbrev pub as_required : Bool → Result End Fault → Result End Fault
as_required mark (Err fault) = Err fault
as_required mark (Ok Mark) = Ok Mark
as_required true (Ok Closed) = Err Truncated
as_required false (Ok Closed) = Ok Closed
