-- Faults of the FlatBuffers binary format as faults of a message.
use Rattle.std.specs.Prelude.{Result, Ok, Err}
use Rattle.ipc_flat.specs.declared.fault.FlatFault.{FlatFault}
use Rattle.ipc_flat.specs.declared.fault.FlatFault.TheVariants as flat
use Rattle.ipc_model.specs.declared.fault.Fault.{Fault}
use Rattle.ipc_model.specs.declared.fault.Fault.TheVariants.{BadFlat, NameNotUtf8}

-- a text that is not UTF-8 has a fault of its own ("Strings and Vectors"); every other fault is
-- ill-formed metadata
abbrev pub fault_of : FlatFault → Fault
fault_of flat.OffsetZero = BadFlat
fault_of flat.OutOfBounds = BadFlat
fault_of flat.BadVtable = BadFlat
fault_of flat.NotUtf8 = NameNotUtf8

-- a result of the FlatBuffers reader as a result for a message
abbrev pub map_fault : {A : Type 0} → Result A FlatFault → Result A Fault
map_fault (Ok x) = Ok x
map_fault (Err e) = Err (fault_of e)
